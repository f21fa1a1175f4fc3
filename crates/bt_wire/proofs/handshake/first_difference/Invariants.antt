use Rattle.std.proofs.Common.{◌≡◌, drop}
use Rattle.bt_wire.specs.Handshakes.{first_difference as first_of}
use Rattle.bt_wire.proofs.Differing.{shifted}
use Rattle.bt_wire.proofs.handshake.first_difference.Given as goal

abbrev pub invariant-loop-i : goal.invariant-loop-i
invariant-loop-i l = shifted l.i (first_of (drop l.i l.fixed) (drop l.i l.bytes)) ≡ first_of l.fixed l.bytes
