use Rattle.std.proofs.Common.{ap, ◌∙◌, option_map, option_and_then}
use Rattle.bt_packet.specs.Utp.{utp_packet, utp_in}
use Rattle.bt_packet.proofs.Datagrams.{utp_told}
use Rattle.bt_packet.proofs.utp.utp_of.Goals as goal

pub returns-in_err-carried_of-clause-told : goal.returns-in_err-carried_of-clause-told
returns-in_err-carried_of-clause-told c =
    utp_told c.args.link c.args.bytes.now c.args.wire _
    (ap (option_map utp_packet) c.from_residual.ensures ∙ ap (option_and_then utp_in) c.in_err-carried_of.ensures.value)

pub returns-clause-told : goal.returns-clause-told
returns-clause-told c =
    utp_told c.args.link c.args.bytes.now c.args.wire _ (c.utp_in.ensures ∙ ap (option_and_then utp_in) c.in_ok-carried_of.ensures.value)
