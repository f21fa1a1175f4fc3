use Rattle.std.proofs.Common.{arith}
use Rattle.bt_flow.proofs.Holes.{flow_passes, may_less, passes_none}
use Rattle.bt_flow.proofs.flow.Flow.pass.Goals as goal

pub returns-then-count-eq0 : goal.returns-then-count-eq0
returns-then-count-eq0 c = passes_none c.args.n c.args.self.now c.args.later.now.items c.hole_to.result c.hole_to.ensures.hole
    (omega (arith, c.min-count.ensures, c.if-count-eq0.true))

pub returns : goal.returns
returns c = flow_passes c.args.n c.args.self.now c.args.later.now.items c.min-count.result c.hole_to.result c.skip.new.self c.skip.new.later.items
    c.skip.ensures.half c.skip.ensures.noted
    (may_less c.min-count.result c.hole_to.result c.args.self.now.stream (omega (arith, c.min-count.ensures))
    (c.hole_to.ensures.may (omega (arith, c.min-count.ensures, c.if-count-eq0.false))))
    c.in_ok-skip.ensures.skipped c.hole_to.ensures.hole c.min-count.ensures
    (omega (arith, c.if-count-eq0.false))
