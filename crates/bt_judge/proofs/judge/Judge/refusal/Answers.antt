use Rattle.std.proofs.Common.{Option, subst}
use Rattle.bt_ext.specs.declared.ids.Rules.TheVariants.{Free}
use Rattle.bt_judge.specs.Judges.{under, IsFree}
use Rattle.bt_judge.specs.Readings.{ReadingState}
use Rattle.bt_judge.proofs.Both.{stands_free}
use Rattle.bt_judge.proofs.judge.Judge.refusal.Goals as goal

pub returns-in-Some : goal.returns-in-Some
returns-in-Some c = λ own b xs ys j.
    let both = subst (λ (o : Option ReadingState). IsFree own b xs ys c.args.self.now.bep o) c.in-Some.is j.free in
    c.refusal.ensures.stands (under Free own) b xs both.1

pub returns-in-None : goal.returns-in-None
returns-in-None c = λ own b xs ys j.
    let both = subst (λ (o : Option ReadingState). IsFree own b xs ys c.args.self.now.bep o) c.in-None.is j.free in
    stands_free own b ys c.args.self.now.bep j.bep both.0
