use Rattle.std.proofs.Common.{option_map, ap, refl, sym, ◌∙◌, ◌*◌, ℕ}
use Rattle.bt_packet.proofs.Packets.{ipv4_fragment, ipv4_kept}
use Rattle.bt_packet.specs.Ip.{contents, ipv4_carried}
use Rattle.bt_packet.specs.declared.address.Host.TheVariants.{V4}
use Rattle.bt_packet.proofs.ip.ipv4.Goals as goal

pub returns-then-is_fragment : goal.returns-then-is_fragment
returns-then-is_fragment c =
    ipv4_fragment c.args.packet.now _ c.in_ok-source.source.now c.in_ok-source.rest.now c.in_ok-target.target.now c.in_ok-target.rest.now
    c.args.wire c.from_be_bytes.result (record {
      enough = c.in-len12-up.len_at_least;
      rest_is = refl;
      source_is = c.in_ok-source.ensures.cases.0;
      rest2_is = c.in_ok-source.ensures.cases.1;
      size2 = c.in_ok-source.ensures.cases.2;
      target_is = c.in_ok-target.ensures.cases.0;
      rest3_is = c.in_ok-target.ensures.cases.1;
      size3 = c.in_ok-target.ensures.cases.2;
    }) c.from_be_bytes.ensures (sym c.is_fragment.ensures ∙ c.if-is_fragment.true)

pub returns-in_err-payload : goal.returns-in_err-payload
returns-in_err-payload c =
    ap (option_map contents) c.from_residual-in_err-payload.ensures
    ∙ ap (option_map (ipv4_carried _ (V4 c.in_ok-source.source.now) (V4 c.in_ok-target.target.now) _)) c.in_err-payload.ensures.payload
    ∙ sym (ipv4_kept c.args.packet.now _ c.in_ok-source.source.now c.in_ok-source.rest.now c.in_ok-target.target.now c.in_ok-target.rest.now
    c.args.wire c.from_be_bytes.result c.from_be_bytes-2.result c.total-total.result _ (record {
      enough = c.in-len12-up.len_at_least;
      rest_is = refl;
      source_is = c.in_ok-source.ensures.cases.0;
      rest2_is = c.in_ok-source.ensures.cases.1;
      size2 = c.in_ok-source.ensures.cases.2;
      target_is = c.in_ok-target.ensures.cases.0;
      rest3_is = c.in_ok-target.ensures.cases.1;
      size3 = c.in_ok-target.ensures.cases.2;
    }) c.from_be_bytes.ensures (sym c.is_fragment.ensures ∙ c.if-is_fragment.false) c.from_be_bytes-2.ensures c.total-total.ensures
    (ap (λ (x : ℕ). 4 * x) c.from-header.ensures))

pub returns : goal.returns
returns c =
    ap (option_map (ipv4_carried _ (V4 c.in_ok-source.source.now) (V4 c.in_ok-target.target.now) _)) c.in_ok-payload.ensures.payload
    ∙ sym (ipv4_kept c.args.packet.now _ c.in_ok-source.source.now c.in_ok-source.rest.now c.in_ok-target.target.now c.in_ok-target.rest.now
    c.args.wire c.from_be_bytes.result c.from_be_bytes-2.result c.total-total.result _ (record {
      enough = c.in-len12-up.len_at_least;
      rest_is = refl;
      source_is = c.in_ok-source.ensures.cases.0;
      rest2_is = c.in_ok-source.ensures.cases.1;
      size2 = c.in_ok-source.ensures.cases.2;
      target_is = c.in_ok-target.ensures.cases.0;
      rest3_is = c.in_ok-target.ensures.cases.1;
      size3 = c.in_ok-target.ensures.cases.2;
    }) c.from_be_bytes.ensures (sym c.is_fragment.ensures ∙ c.if-is_fragment.false) c.from_be_bytes-2.ensures c.total-total.ensures
    (ap (λ (x : ℕ). 4 * x) c.from-header.ensures))
