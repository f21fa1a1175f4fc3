use Rattle.std.proofs.Common.{◌≡◌, sym, ◌∙◌, eq-eqb, ne_eqb, ap, option_map, Bor, List, ℕ, ◌-◌, length, drop, take, Some}
use Rattle.bt_packet.specs.Bytes.{after}
use Rattle.bt_packet.proofs.Attributes.{attributes_low, attributes_packet, attributes_none, attributes_step, attributes_shorter}
use Rattle.bt_packet.proofs.nflog.packet_in_attributes.Goals as goal

pub returns-then-length-lt4 : goal.returns-then-length-lt4
returns-then-length-lt4 c =
    sym (c.loop-bytes.invariant
    ∙ attributes_low c.loop-bytes.bytes.now c.from_le_bytes-length.result c.in-len4-up.len_at_least c.from_le_bytes-length.ensures c.if-length-lt4.true)

pub returns-then-from_le_bytes-eq9 : goal.returns-then-from_le_bytes-eq9
returns-then-from_le_bytes-eq9 c =
    ap (λ (x : List ℕ). Some x)
    (c.front.ensures ∙ ap (λ (n : ℕ). take (n - 4) (take (length c.loop-bytes.bytes.now - 4) (drop 4 c.loop-bytes.bytes.now))) c.from.ensures)
    ∙ sym (c.loop-bytes.invariant
    ∙ attributes_packet c.loop-bytes.bytes.now c.from_le_bytes-length.result c.from_le_bytes.result c.in-len4-up.len_at_least
    c.from_le_bytes-length.ensures c.from_le_bytes.ensures c.if-length-lt4.false (eq-eqb _ 9 c.if-from_le_bytes-eq9.true))

pub returns-in_err-bytes : goal.returns-in_err-bytes
returns-in_err-bytes c =
    ap (option_map (λ (b : Bor (List ℕ)). b.now)) c.from_residual.ensures
    ∙ attributes_none c.loop-bytes.bytes.now c.from_le_bytes-length.result c.from_le_bytes.result c.in-len4-up.len_at_least
    c.from_le_bytes-length.ensures c.from_le_bytes.ensures c.if-length-lt4.false (ne_eqb _ 9 c.if-from_le_bytes-eq9.false)
    (c.in_err-bytes.ensures ∙ ap (λ (n : ℕ). after (n - 4) (take (length c.loop-bytes.bytes.now - 4) (drop 4 c.loop-bytes.bytes.now))) c.padded.ensures)
    ∙ sym c.loop-bytes.invariant

pub loop-bytes-preserved : goal.loop-bytes-preserved
loop-bytes-preserved c =
    c.loop-bytes.invariant
    ∙ attributes_step c.loop-bytes.bytes.now c.in_ok-bytes.bytes.now c.from_le_bytes-length.result c.from_le_bytes.result c.in-len4-up.len_at_least
    c.from_le_bytes-length.ensures c.from_le_bytes.ensures c.if-length-lt4.false (ne_eqb _ 9 c.if-from_le_bytes-eq9.false)
    (c.in_ok-bytes.ensures ∙ ap (λ (n : ℕ). after (n - 4) (take (length c.loop-bytes.bytes.now - 4) (drop 4 c.loop-bytes.bytes.now))) c.padded.ensures)

pub loop-bytes-smaller : goal.loop-bytes-smaller
loop-bytes-smaller c = attributes_shorter c.loop-bytes.bytes.now c.in_ok-bytes.bytes.now _ c.in-len4-up.len_at_least c.in_ok-bytes.ensures
