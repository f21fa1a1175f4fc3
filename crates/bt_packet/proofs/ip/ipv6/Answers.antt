use Rattle.std.proofs.Common.{option_map, ap, refl, sym, ◌∙◌, ◌-◌, ℕ}
use Rattle.bt_packet.specs.Ip.{contents, ipv6_carried, total_of}
use Rattle.bt_packet.specs.declared.address.Host.TheVariants.{V6}
use Rattle.bt_packet.proofs.Packets.{ipv6_kept, ipv6_some}
use Rattle.bt_packet.proofs.ip.ipv6.Goals as goal

pub returns-in_err-protocol : goal.returns-in_err-protocol
returns-in_err-protocol c =
    let source = c.in_ok-source.source.now in
    let target = c.in_ok-target.target.now in
    let payload = c.front-payload.result.now in
    ap (option_map contents) c.from_residual-in_err-protocol.ensures
    ∙ ap (option_map (ipv6_carried (V6 source) (V6 target) c.total-size.result payload)) c.in_err-protocol.ensures
    ∙ sym (ipv6_kept c.args.packet.now _ c.in_ok-source.rest.now c.in_ok-target.rest.now source target payload
    c.args.wire c.from_be_bytes.result c.total-size.result c.in-len8-up.len_at_least c.from_be_bytes.ensures
    (c.total-size.ensures ∙ ap (total_of c.from_be_bytes.result) c.saturating_sub.ensures) refl
    c.in_ok-source.ensures.cases.0 c.in_ok-source.ensures.cases.1 c.in_ok-source.ensures.cases.2
    c.in_ok-target.ensures.cases.0 c.in_ok-target.ensures.cases.1 c.in_ok-target.ensures.cases.2 c.front-payload.ensures)

pub returns : goal.returns
returns c =
    let source = c.in_ok-source.source.now in
    let target = c.in_ok-target.target.now in
    let payload = c.front-payload.result.now in
    ipv6_some source target payload c.in_ok-protocol.above.now _ c.in_ok-protocol.protocol c.total-size.result c.saturating_sub-3.result
    c.in_ok-protocol.ensures (c.saturating_sub-3.ensures ∙ ap (λ (x : ℕ). c.total-size.result - x) c.saturating_sub-2.ensures)
    ∙ sym (ipv6_kept c.args.packet.now _ c.in_ok-source.rest.now c.in_ok-target.rest.now source target payload
    c.args.wire c.from_be_bytes.result c.total-size.result c.in-len8-up.len_at_least c.from_be_bytes.ensures
    (c.total-size.ensures ∙ ap (total_of c.from_be_bytes.result) c.saturating_sub.ensures) refl
    c.in_ok-source.ensures.cases.0 c.in_ok-source.ensures.cases.1 c.in_ok-source.ensures.cases.2
    c.in_ok-target.ensures.cases.0 c.in_ok-target.ensures.cases.1 c.in_ok-target.ensures.cases.2 c.front-payload.ensures)
