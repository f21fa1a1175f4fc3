use Rattle.std.proofs.Common.{sym, ◌∙◌, ap, option_map}
use Rattle.bt_packet.specs.Ip.{contents}
use Rattle.bt_packet.proofs.Within.{innermost_none, innermost_shorter, innermost_step}
use Rattle.bt_packet.proofs.tunnel.innermost.Goals as goal

pub returns-in_err-carried : goal.returns-in_err-carried
returns-in_err-carried c =
    ap (option_map contents) c.from_residual.ensures
    ∙ innermost_none (contents c.loop-carried.carried) (sym c.is_wrapped.ensures ∙ c.loop-carried-test.true) c.in_err-carried.ensures
    ∙ sym c.loop-carried.invariant

pub loop-carried-smaller : goal.loop-carried-smaller
loop-carried-smaller c =
    innermost_shorter (contents c.loop-carried.carried) (contents c.in_ok-carried.carried)
    (sym c.is_wrapped.ensures ∙ c.loop-carried-test.true) c.in_ok-carried.ensures

pub loop-carried-preserved : goal.loop-carried-preserved
loop-carried-preserved c =
    c.loop-carried.invariant
    ∙ innermost_step (contents c.loop-carried.carried) (contents c.in_ok-carried.carried)
    (sym c.is_wrapped.ensures ∙ c.loop-carried-test.true) c.in_ok-carried.ensures
