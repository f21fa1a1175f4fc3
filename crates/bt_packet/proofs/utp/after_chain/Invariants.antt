use Rattle.std.proofs.Common.{◌≡◌, length, None}
use Rattle.bt_packet.proofs.Chains.{said}
use Rattle.bt_packet.proofs.utp.after_chain.Given as goal

abbrev pub invariant-loop-kind : goal.invariant-loop-kind
invariant-loop-kind l = said None l.kind-2 l.bytes-2 ≡ said l.reason l.kind l.bytes

abbrev pub decreases-loop-kind : goal.decreases-loop-kind
decreases-loop-kind l = length l.bytes
