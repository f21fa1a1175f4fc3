-- The count among the nodes so far.
use Rattle.std.proofs.Common.{◌≡◌, take}
use Rattle.bt_seek.specs.Nodes.{nearer_answers}
use Rattle.bt_seek.proofs.node.Nodes.nearer.Given as goal

abbrev pub invariant-loop-node : goal.invariant-loop-node
invariant-loop-node l = l.count ≡ nearer_answers l.fn.self.info_hash (take l.node-index l.fn.self.known.items) l.fn.than
