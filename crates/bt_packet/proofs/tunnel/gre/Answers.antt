use Rattle.std.proofs.Common.{sym, ◌∙◌, ap, option_map, Bor, List, ℕ}
use Rattle.bt_packet.proofs.Tunnels.{gre_none, gre_whole}
use Rattle.bt_packet.proofs.tunnel.gre.Goals as goal

pub returns-in_err-rest : goal.returns-in_err-rest
returns-in_err-rest c =
    ap (option_map (λ (b : Bor (List ℕ)). b.now)) c.from_residual.ensures
    ∙ gre_none c.args.bytes.now c.gre_fields.result c.in-len4-up.len_at_least (sym c.is_gre.ensures ∙ c.if-not-is_gre.false)
    c.gre_fields.ensures c.in_err-rest.ensures

pub returns : goal.returns
returns c =
    c.bridged.ensures
    ∙ sym (gre_whole c.args.bytes.now c.in_ok-rest.rest.now c.gre_fields.result c.from_be_bytes.result c.in-len4-up.len_at_least
    (sym c.is_gre.ensures ∙ c.if-not-is_gre.false) c.gre_fields.ensures c.from_be_bytes.ensures c.in_ok-rest.ensures)
