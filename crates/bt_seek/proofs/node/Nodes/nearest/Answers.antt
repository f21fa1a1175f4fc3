use Rattle.bt_seek.proofs.Near.{best_step}
use Rattle.bt_seek.proofs.node.Nodes.nearest.Goals as goal

pub loop-node-preserved : goal.loop-node-preserved
loop-node-preserved c =
    best_step c.args.self.now.info_hash c.args.self.now.known.items c.deref-node-items.result.now c.loop-node.node-index _ c.loop-node.best
    c.better-best.result c.deref-node-items.ensures.value c.loop-node-test.true c.better-best.ensures c.loop-node.invariant
