use Rattle.std.proofs.Common.{◌≡◌, length}
use Rattle.bt_packet.specs.Ip.{contents, innermost as innermost_of}
use Rattle.bt_packet.proofs.tunnel.innermost.Given as goal

abbrev pub invariant-loop-carried : goal.invariant-loop-carried
invariant-loop-carried l = innermost_of (contents l.carried-2) ≡ innermost_of (contents l.carried)

abbrev pub decreases-loop-carried : goal.decreases-loop-carried
decreases-loop-carried l = length l.carried.payload.now
