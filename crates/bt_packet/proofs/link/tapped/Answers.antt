use Rattle.std.proofs.Common.{sym, ◌∙◌}
use Rattle.bt_packet.proofs.Taps.{tapped_whole}
use Rattle.bt_packet.proofs.link.tapped.Goals as goal

pub returns : goal.returns
returns c =
    c.plain_packet_of.ensures
    ∙ sym (tapped_whole c.args.bytes.now c.in_ok-rest.rest.now c.from_le_bytes.result c.from_le_bytes-2.result c.in-len12-up.len_at_least
    c.from_le_bytes.ensures c.in_ok-rest.ensures c.from_le_bytes-2.ensures)
