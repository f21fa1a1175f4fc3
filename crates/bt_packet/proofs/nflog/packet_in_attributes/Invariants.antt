use Rattle.std.proofs.Common.{◌≡◌, length}
use Rattle.bt_packet.specs.Links.{all_attributes}
use Rattle.bt_packet.proofs.nflog.packet_in_attributes.Given as goal

abbrev pub invariant-loop-bytes : goal.invariant-loop-bytes
invariant-loop-bytes l = all_attributes l.bytes-2 ≡ all_attributes l.bytes

abbrev pub decreases-loop-bytes : goal.decreases-loop-bytes
decreases-loop-bytes l = length l.bytes
