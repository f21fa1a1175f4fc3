use Rattle.std.proofs.Common.{sym, ◌∙◌}
use Rattle.bt_packet.proofs.Types.{cooked_after}
use Rattle.bt_packet.proofs.link.cooked.Goals as goal

pub returns : goal.returns
returns c =
    c.after_type.ensures
    ∙ sym (cooked_after c.args.bytes.now c.in_ok-rest.rest.now c.from_be_bytes.result c.in-len2-up.len_at_least c.from_be_bytes.ensures c.in_ok-rest.ensures)
