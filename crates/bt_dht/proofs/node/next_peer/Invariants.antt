use Rattle.std.proofs.Common.{◌≡◌, ◌≤◌, length}
use Rattle.bt_bencode.specs.Views.{trees_of}
use Rattle.bt_dht.specs.Messages.{peers_in}
use Rattle.bt_dht.proofs.node.next_peer.Given as goal

-- what was passed over is no peer
abbrev pub invariant-loop-value : goal.invariant-loop-value
invariant-loop-value l = (peers_in (trees_of l.fn.values) ≡ peers_in (trees_of l.rest)) × (length l.rest ≤ length l.fn.values)

abbrev pub decreases-loop-value : goal.decreases-loop-value
decreases-loop-value l = length l.rest
