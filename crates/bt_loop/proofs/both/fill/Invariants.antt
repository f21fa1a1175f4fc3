use Rattle.std.proofs.Common.{◌≡◌, ◌-◌, length}
use Rattle.bt_loop.proofs.Passing.{IsFilling}
use Rattle.bt_loop.proofs.both.fill.Given as goal

-- what came so far
abbrev pub invariant-calls : goal.invariant-calls
invariant-calls g l = record {
  filling : IsFilling l.at (g.W.Wire.seen l.initial.wire) (g.W.Wire.seen l.wire) l.into l.filled;
  size : length l.into ≡ length l.initial.into;
}

abbrev pub decreases-calls : goal.decreases-calls
decreases-calls g l = length l.initial.into - l.filled
