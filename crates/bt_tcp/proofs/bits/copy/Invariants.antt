use Rattle.std.proofs.Common.{◌≤◌, ◌-◌}
use Rattle.bt_tcp.specs.Bits.{IsCopiedTo}
use Rattle.bt_tcp.proofs.bits.copy.Given as goal

abbrev pub invariant-loop-k : goal.invariant-loop-k
invariant-loop-k l = record { within : l.k ≤ l.count; copied : IsCopiedTo l.bits l.from l.k l.initial.to l.at l.to }

abbrev pub decreases-loop-k : goal.decreases-loop-k
decreases-loop-k l = l.count - l.k
