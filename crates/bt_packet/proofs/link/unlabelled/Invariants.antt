use Rattle.std.proofs.Common.{◌≡◌, length, Some, if◌then◌else◌}
use Rattle.bt_packet.specs.Links.{unlabelled as unlabelled_of}
use Rattle.bt_packet.proofs.link.unlabelled.Given as goal

abbrev pub invariant-loop-is_last : goal.invariant-loop-is_last
invariant-loop-is_last l = unlabelled_of l.bytes-2 ≡ (if l.is_last then Some l.bytes else unlabelled_of l.bytes)

abbrev pub decreases-loop-is_last : goal.decreases-loop-is_last
decreases-loop-is_last l = length l.bytes
