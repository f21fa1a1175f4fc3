use Rattle.bt_talk.proofs.Talks.{acked_some}
use Rattle.bt_talk.proofs.sides.hear.Goals as goal

pub returns-in-Some-clause-heard : goal.returns-in-Some-clause-heard
returns-in-Some-clause-heard c = λ terms p other r d.
    acked_some terms c.args.segment.now p other _ c.in-Some.acked r c.in-Some.is (c.hear.ensures.heard terms p other d)
