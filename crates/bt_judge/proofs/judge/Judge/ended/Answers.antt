use Rattle.std.proofs.Common.{Option, subst}
use Rattle.bt_ext.specs.declared.ids.Rules.TheVariants.{Bep}
use Rattle.bt_judge.specs.Judges.{under, IsFree}
use Rattle.bt_judge.specs.Readings.{ReadingState}
use Rattle.bt_judge.proofs.Both.{told_free}
use Rattle.bt_judge.proofs.judge.Judge.ended.Goals as goal

pub returns-in-None : goal.returns-in-None
returns-in-None c = λ own b xs ys j.
    let bep = c.args.self.now.bep in
    let both = subst (λ (o : Option ReadingState). IsFree own b xs ys bep o) c.in-None.is j.free in
    let told = c.ended-bep.ensures (under Bep own) b ys j.bep in
    record { free = told_free own b xs ys bep c.ended-bep.result both.1 j.bep both.0 told; bep = told }
