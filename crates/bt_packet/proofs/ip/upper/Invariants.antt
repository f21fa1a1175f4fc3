use Rattle.std.proofs.Common.{◌≡◌, length}
use Rattle.bt_packet.specs.Ip.{upper as upper_of}
use Rattle.bt_packet.proofs.ip.upper.Given as goal

abbrev pub invariant-loop-bytes : goal.invariant-loop-bytes
invariant-loop-bytes l = upper_of (length l.bytes-2) l.protocol-2 l.bytes-2 ≡ upper_of (length l.bytes) l.protocol l.bytes

abbrev pub decreases-loop-bytes : goal.decreases-loop-bytes
decreases-loop-bytes l = length l.bytes
