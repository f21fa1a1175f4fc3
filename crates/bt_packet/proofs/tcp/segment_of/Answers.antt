use Rattle.std.proofs.Common.{ap, ◌∙◌, option_map, option_and_then}
use Rattle.bt_packet.specs.Tcp.{segment, segment_in}
use Rattle.bt_packet.proofs.Told.{told}
use Rattle.bt_packet.proofs.tcp.segment_of.Goals as goal

pub returns-in_err-carried_of-clause-told : goal.returns-in_err-carried_of-clause-told
returns-in_err-carried_of-clause-told c =
    told c.args.link c.args.bytes.now c.args.wire _
    (ap (option_map segment) c.from_residual.ensures ∙ ap (option_and_then segment_in) c.in_err-carried_of.ensures.value)

pub returns-clause-told : goal.returns-clause-told
returns-clause-told c =
    told c.args.link c.args.bytes.now c.args.wire _ (c.segment_in.ensures ∙ ap (option_and_then segment_in) c.in_ok-carried_of.ensures.value)
