-- The order of packets that agree doesn't matter.
use Rattle.std.proofs.Common.{◌≡◌, ℕ, zero, suc, ◌+◌, ◌≤◌, ◌==◌, List, [], ◌∷◌, Option, Some, None, refl, sym, ap, ◌∙◌, arith, inl, inr}
use Rattle.std.specs.Prelude.{◌↔◌}
use Rattle.std.proofs.lemmas.Bool.{cases_Bool}
use Rattle.bt_order.specs.Streams.{Packet, packet_at, with_packet, payloads, end_of, utp_stream}
use Rattle.bt_order.specs.Laws.{Came, Agree, OrderDoesntMatter}
use Rattle.bt_order.proofs.Payloads.{payloads_none, below_end}

found : (ps : List Packet) (i : ℕ) (p : Packet) → packet_at ps i ≡ Some p → Came ps p × (p.index ≡ i)
found [] i p e = cc
found (q ∷ ps) i p e = elim (cases_Bool (q.index == i)) [
  | inl t ↦
      let is : q.index ≡ i = grind arith in
      let e' : Some q ≡ Some p = rw t at e in
      let same : q ≡ p = cc in
      (inl same, sym (ap (λ (r : Packet). r.index) same) ∙ is)
  | inr f ↦ let later = found ps i p (rw f at e) in (inr later.0, later.1)
]

missed : (ps : List Packet) (i : ℕ) (p : Packet) → packet_at ps i ≡ None → Came ps p → p.index ≡ i → ⊥
missed [] i p e c is = c
missed (q ∷ ps) i p e c is = elim (cases_Bool (q.index == i)) [
  | inl t ↦ let e' : Some q ≡ None = rw t at e in cc
  | inr f ↦ elim c [
    | inl same ↦ let is' : q.index ≡ i = ap (λ (r : Packet). r.index) same ∙ is in grind arith
    | inr later ↦ missed ps i p (rw f at e) later is
  ]
]

same_packet : (ps qs : List Packet) → Agree ps → ((p : Packet) → Came ps p ↔ Came qs p) → (i : ℕ) (o o' : Option Packet)
    → packet_at ps i ≡ o → packet_at qs i ≡ o' → o ≡ o'
same_packet ps qs agree both i None None e e' = refl
same_packet ps qs agree both i None (Some q) e e' = let f = found qs i q e' in absurd (missed ps i q e ((both q).1 f.0) f.1)
same_packet ps qs agree both i (Some p) None e e' = let f = found ps i p e in absurd (missed qs i p e' ((both p).0 f.0) f.1)
same_packet ps qs agree both i (Some p) (Some q) e e' =
    let f = found ps i p e in
    let g = found qs i q e' in
    ap Some (agree p q f.0 ((both q).1 g.0) (f.1 ∙ sym g.1))

payloads_alike : (at at' : ℕ → Option Packet) (n i : ℕ) → ((k : ℕ) → at k ≡ at' k) → payloads at n i ≡ payloads at' n i
payloads_alike at at' zero i h = refl
payloads_alike at at' (suc n) i h = ap (λ o. with_packet o (payloads at n (i + 1))) (h i) ∙ ap (with_packet (at' i)) (payloads_alike at at' n (i + 1) h)

-- the count of packets doesn't matter, if none is after them
enough : (at : ℕ → Option Packet) (n m i : ℕ) → n ≤ m → ((k : ℕ) → i + n ≤ k → at k ≡ None) → payloads at m i ≡ payloads at n i
enough at zero m i le h = payloads_none at m i (h i (omega arith))
enough at (suc n) zero i le h = absurd (omega (arith, le))
enough at (suc n) (suc m) i le h = ap (with_packet (at i)) (enough at n m (i + 1) (omega (arith, le)) (λ k past. h k (omega (arith, past))))

none_past : (ps : List Packet) (i : ℕ) (o : Option Packet) → packet_at ps i ≡ o → end_of ps ≤ i → o ≡ None
none_past ps i None e past = refl
none_past ps i (Some p) e past = absurd (omega (arith, below_end ps i p e, past))

whole : (ps : List Packet) (m : ℕ) → end_of ps ≤ m → payloads (packet_at ps) m 65536 ≡ utp_stream ps
whole ps m le = enough (packet_at ps) (end_of ps) m 65536 le (λ k past. none_past ps k (packet_at ps k) refl (omega (arith, past)))

pub order_doesnt_matter : OrderDoesntMatter
order_doesnt_matter ps qs agree both =
    let m = end_of ps + end_of qs in
    sym (whole ps m (omega arith))
    ∙ payloads_alike (packet_at ps) (packet_at qs) m 65536 (λ i. same_packet ps qs agree both i (packet_at ps i) (packet_at qs i) refl refl)
    ∙ whole qs m (omega arith)
