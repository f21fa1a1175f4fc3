use Rattle.std.proofs.Common.{ap, option_map, refl, sym, ◌∙◌}
use Rattle.bt_packet.proofs.Extensions.{upper_none, upper_step}
use Rattle.bt_packet.specs.Ip.{pair_of}
use Rattle.bt_packet.proofs.ip.upper.Goals as goal

pub returns-in_err-bytes : goal.returns-in_err-bytes
returns-in_err-bytes c =
    let extends = sym c.is_extension.ensures ∙ c.loop-bytes-test.true in
    ap (option_map pair_of) c.from_residual.ensures
    ∙ upper_none c.loop-bytes.protocol _ c.loop-bytes.bytes.now extends c.in-len2-up.len_at_least refl c.in_err-bytes.ensures
    ∙ sym c.loop-bytes.invariant

pub loop-bytes-preserved : goal.loop-bytes-preserved
loop-bytes-preserved c =
    let extends = sym c.is_extension.ensures ∙ c.loop-bytes-test.true in
    c.loop-bytes.invariant
    ∙ upper_step c.loop-bytes.protocol _ _ c.loop-bytes.bytes.now c.in_ok-bytes.bytes.now extends
    c.in-len2-up.len_at_least refl refl c.in_ok-bytes.ensures
