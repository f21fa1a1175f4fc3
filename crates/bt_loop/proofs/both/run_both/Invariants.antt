use Rattle.bt_loop.proofs.Passing.{IsRunning}
use Rattle.bt_loop.proofs.both.run_both.Given as goal

abbrev pub invariant-loop-round : goal.invariant-loop-round
invariant-loop-round g l = IsRunning l._round (g.W.Wire.seen l.fn.wire) (g.W.Wire.seen l.wire) l.fn.left l.left l.fn.right l.right l.handled
