use Rattle.std.proofs.Common.{sym, ◌∙◌}
use Rattle.bt_packet.proofs.Types.{typed_whole}
use Rattle.bt_packet.proofs.link.typed.Goals as goal

pub returns : goal.returns
returns c = c.after_type.ensures ∙ sym (typed_whole c.args.bytes.now c.from_be_bytes.result c.in-len2-up.len_at_least c.from_be_bytes.ensures)
