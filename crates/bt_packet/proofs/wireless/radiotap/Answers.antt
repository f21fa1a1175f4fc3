use Rattle.std.proofs.Common.{sym, ◌∙◌, eq-eqb, ap, option_map, Bor, List, ℕ}
use Rattle.bt_packet.proofs.DataFrames.{radiotap_none, radiotap_whole}
use Rattle.bt_packet.proofs.wireless.radiotap.Goals as goal

pub returns-in_err-rest : goal.returns-in_err-rest
returns-in_err-rest c =
    ap (option_map (λ (b : Bor (List ℕ)). b.now)) c.from_residual.ensures
    ∙ radiotap_none c.args.bytes.now c.from.result c.in-len4-up.len_at_least (eq-eqb _ 0 c.if-version-eq0.true) (c.from.ensures ∙ c.from_le_bytes-size.ensures)
    c.in_err-rest.ensures

pub returns-in_ok-rest : goal.returns-in_ok-rest
returns-in_ok-rest c =
    c.wireless.ensures
    ∙ sym (radiotap_whole c.args.bytes.now c.in_ok-rest.rest.now c.from.result c.in-len4-up.len_at_least (eq-eqb _ 0 c.if-version-eq0.true)
    (c.from.ensures ∙ c.from_le_bytes-size.ensures) c.in_ok-rest.ensures)
