use Rattle.std.proofs.Common.{◌≡◌, length}
use Rattle.bt_packet.specs.Links.{after_type as after_type_of}
use Rattle.bt_packet.proofs.link.after_type.Given as goal

abbrev pub invariant-loop-bytes : goal.invariant-loop-bytes
invariant-loop-bytes l = after_type_of l.kind-2 l.bytes-2 ≡ after_type_of l.kind l.bytes

abbrev pub decreases-loop-bytes : goal.decreases-loop-bytes
decreases-loop-bytes l = length l.bytes
