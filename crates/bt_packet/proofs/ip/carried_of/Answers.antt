use Rattle.std.proofs.Common.{ap, sym, ◌∙◌, length, option_map, option_and_then}
use Rattle.bt_packet.specs.Ip.{contents, innermost}
use Rattle.bt_packet.proofs.Told.{contents_told}
use Rattle.bt_packet.proofs.Tunnels.{unwrapped_plain}
use Rattle.bt_packet.proofs.ip.carried_of.Goals as goal

pub returns-in_err-outer-clause-told : goal.returns-in_err-outer-clause-told
returns-in_err-outer-clause-told c =
    contents_told c.args.link c.args.bytes.now c.args.wire _
    (ap (option_map contents) c.from_residual.ensures ∙ ap (option_and_then innermost) c.in_err-outer.ensures)

pub returns-then-is_wrapped-clause-told : goal.returns-then-is_wrapped-clause-told
returns-then-is_wrapped-clause-told c =
    contents_told c.args.link c.args.bytes.now c.args.wire _ (c.innermost.ensures ∙ ap (option_and_then innermost) c.in_ok-outer.ensures)

pub returns-else-is_wrapped-clause-told : goal.returns-else-is_wrapped-clause-told
returns-else-is_wrapped-clause-told c =
    contents_told c.args.link c.args.bytes.now c.args.wire _
    (sym (unwrapped_plain (length c.in_ok-outer.outer.payload.now) (contents c.in_ok-outer.outer) (sym c.is_wrapped.ensures ∙ c.if-is_wrapped.false))
    ∙ ap (option_and_then innermost) c.in_ok-outer.ensures)

pub returns-else-is_wrapped-clause-value : goal.returns-else-is_wrapped-clause-value
returns-else-is_wrapped-clause-value c =
    sym (unwrapped_plain (length c.in_ok-outer.outer.payload.now) (contents c.in_ok-outer.outer) (sym c.is_wrapped.ensures ∙ c.if-is_wrapped.false))
    ∙ ap (option_and_then innermost) c.in_ok-outer.ensures
