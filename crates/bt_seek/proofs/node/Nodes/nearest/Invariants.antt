-- The best of the nodes so far.
use Rattle.std.proofs.Common.{take}
use Rattle.bt_seek.specs.Nodes.{IsBest}
use Rattle.bt_seek.proofs.node.Nodes.nearest.Given as goal

abbrev pub invariant-loop-node : goal.invariant-loop-node
invariant-loop-node l = IsBest l.fn.self.info_hash (take l.node-index l.fn.self.known.items) l.best
