use Rattle.bt_packet.proofs.Labels.{label_next}
use Rattle.bt_packet.proofs.link.unlabelled.Goals as goal

pub loop-is_last-preserved : goal.loop-is_last-preserved
loop-is_last-preserved c =
    label_next c.loop-is_last.is_last c.is_bottom-is_last.result c.args.bytes.now c.loop-is_last.bytes.now c.loop-is_last-test.true c.loop-is_last.invariant
    c.in-len4-up.len_at_least c.is_bottom-is_last.ensures
