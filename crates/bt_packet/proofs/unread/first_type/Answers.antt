use Rattle.std.proofs.Common.{sym, ◌∙◌}
use Rattle.bt_packet.proofs.EtherTypes.{first_whole}
use Rattle.bt_packet.proofs.unread.first_type.Goals as goal

pub returns : goal.returns
returns c = c.type_after.ensures ∙ sym (first_whole c.args.bytes.now c.from_be_bytes.result c.in-len2-up.len_at_least c.from_be_bytes.ensures)
