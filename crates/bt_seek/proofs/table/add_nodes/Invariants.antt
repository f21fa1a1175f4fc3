-- The nodes after those so far.
use Rattle.std.proofs.Common.{◌≡◌, take}
use Rattle.bt_seek.specs.Courses.{with_nodes}
use Rattle.bt_seek.proofs.table.add_nodes.Given as goal

abbrev pub invariant-loop-node : goal.invariant-loop-node
invariant-loop-node l = l.nodes.items ≡ with_nodes l.fn.is_local l.fn.nodes.items (take l.node-index l.told)
