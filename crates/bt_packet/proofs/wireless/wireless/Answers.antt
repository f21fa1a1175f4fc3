use Rattle.std.proofs.Common.{sym, ◌∙◌}
use Rattle.bt_packet.proofs.DataFrames.{wireless_whole}
use Rattle.bt_packet.proofs.wireless.wireless.Goals as goal

pub returns : goal.returns
returns c =
    c.sequenced.ensures
    ∙ sym (wireless_whole c.args.bytes.now c.in_ok-rest.rest.now c.fourth_address.result c.qos_control.result c.in-len2-up.len_at_least
    (sym c.is_plain_data.ensures ∙ c.if-not-is_plain_data.false) c.in_ok-rest.ensures c.fourth_address.ensures c.qos_control.ensures)
