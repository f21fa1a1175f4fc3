use Rattle.std.proofs.Common.{[], Option, subst}
use Rattle.bt_ext.specs.declared.ids.Rules.TheVariants.{Free, Bep}
use Rattle.bt_judge.specs.Judges.{under, IsFree}
use Rattle.bt_judge.specs.Readings.{ReadingState}
use Rattle.bt_judge.proofs.Judging.{passes}
use Rattle.bt_judge.proofs.judge.Judge.take.Goals as goal

pub returns-in-Ok-clause-judged : goal.returns-in-Ok-clause-judged
returns-in-Ok-clause-judged g c = λ own b xs ys j.
    let bep = c.args.self.now.bep in
    let both = subst (λ (o : Option ReadingState). IsFree own b xs ys bep o) c.in-Some.is j.free in
    let r = c.in-Ok.ensures.judged (under Free own) b xs both.1 in
    let strict = passes (under Bep own) b ys bep c.args.bytes.now both.0 j.bep in
    (r.0, (r.1.0, ([], record { bep = strict; free = (both.0, r.1.1) })))

pub returns-in-None-clause-judged : goal.returns-in-None-clause-judged
returns-in-None-clause-judged g c = λ own b xs ys j. c.take_both.ensures.judged own b xs ys j c.in-None.is
