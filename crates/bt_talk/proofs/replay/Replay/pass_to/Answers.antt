use Rattle.std.proofs.Common.{◌∙◌, [], refl, sym}
use Rattle.bt_talk.proofs.Replays.{passes_to, short_passed, stays}
use Rattle.bt_talk.proofs.replay.Replay.pass_to.Goals as goal

pub returns-then-not-closes_by-clause-short : goal.returns-then-not-closes_by-clause-short
returns-then-not-closes_by-clause-short c = sym c.closes_by.ensures ∙ c.if-not-closes_by.true

pub returns-then-not-closes_by-clause-goes_on : goal.returns-then-not-closes_by-clause-goes_on
returns-then-not-closes_by-clause-goes_on c = λ since p receiver cut n before t i.
    (n, refl, [], stays since p receiver cut n before t c.args.self.now c.args.watch.now i)

pub returns-clause-short : goal.returns-clause-short
returns-clause-short c = short_passed c.args.upto c.pass_close.new.self.close c.in_ok-pass_close.ensures.passed

pub returns-clause-goes_on : goal.returns-clause-goes_on
returns-clause-goes_on c = λ since p receiver cut n before t i.
    let x = c.in_ok-pass_close.ensures.goes_on since p receiver cut n before t i in
    (x.0, passes_to c.args.upto n x.0 c.args.self.now.close (sym c.closes_by.ensures ∙ c.if-not-closes_by.false) x.1, x.2, x.3)
