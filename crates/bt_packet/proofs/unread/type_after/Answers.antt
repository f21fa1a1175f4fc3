use Rattle.std.proofs.Common.{sym, ◌∙◌, arith}
use Rattle.bt_packet.proofs.Types.{shorter}
use Rattle.bt_packet.proofs.EtherTypes.{next_type}
use Rattle.bt_packet.proofs.unread.type_after.Goals as goal

pub loop-bytes-smaller : goal.loop-bytes-smaller
loop-bytes-smaller c = shorter c.loop-bytes.bytes.now 4 (omega arith) c.in-len4-up.len_at_least

pub loop-bytes-preserved : goal.loop-bytes-preserved
loop-bytes-preserved c =
    let tag = sym c.is_tag.ensures ∙ c.loop-bytes-test.true in
    c.loop-bytes.invariant
    ∙ next_type c.loop-bytes.kind c.loop-bytes.bytes.now c.from_be_bytes-kind.result tag c.in-len4-up.len_at_least c.from_be_bytes-kind.ensures
