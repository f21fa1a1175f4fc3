use Rattle.std.proofs.Common.{Option, subst}
use Rattle.bt_ext.specs.declared.ids.Rules.TheVariants.{Free, Bep}
use Rattle.bt_judge.specs.Judges.{under, IsFree}
use Rattle.bt_judge.specs.Readings.{ReadingState}
use Rattle.bt_judge.proofs.Pushing.{passed_over}
use Rattle.bt_judge.proofs.judge.Judge.fill.Goals as goal

pub returns-in-Some : goal.returns-in-Some
returns-in-Some c = λ own b xs ys j.
    let bep = c.args.self.now.bep in
    let both = subst (λ (o : Option ReadingState). IsFree own b xs ys bep o) c.in-Some.is j.free in
    record { bep = passed_over (under Bep own) b ys bep c.args.n both.0 j.bep; free = (both.0, c.fill.ensures.judged (under Free own) b xs both.1) }
