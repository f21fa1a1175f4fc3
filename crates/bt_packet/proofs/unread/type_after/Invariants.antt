use Rattle.std.proofs.Common.{◌≡◌, length}
use Rattle.bt_packet.specs.Unread.{type_after as type_after_of}
use Rattle.bt_packet.proofs.unread.type_after.Given as goal

abbrev pub invariant-loop-bytes : goal.invariant-loop-bytes
invariant-loop-bytes l = type_after_of l.kind-2 l.bytes-2 ≡ type_after_of l.kind l.bytes

abbrev pub decreases-loop-bytes : goal.decreases-loop-bytes
decreases-loop-bytes l = length l.bytes
