-- What a direction tells.
use Rattle.std.proofs.Common.{◌≡◌, ℕ, ◌+◌, ◌-◌, ◌<◌, ◌≤◌, Bool, true, false, List, [], ◌∷◌, length, refl, sym, ap, subst, ◌∙◌, arith, inl, inr}
use Rattle.std.specs.Prelude.{Option, Some, None, unwrap_or, ◌⊎◌}
use Rattle.std.proofs.lemmas.Bool.{cases_lt}
use Rattle.bt_tcp.specs.Segments.{Segment}
use Rattle.bt_tcp.specs.Heard.{Heard, IsStart}
use Rattle.bt_tcp.specs.declared.covered.Span.{Span}
use Rattle.bt_tcp.specs.declared.covered.Gap.{Gap}
use Rattle.bt_tcp.specs.declared.covered.Gaps.{Gaps}
use Rattle.bt_tcp.specs.Covered.{in_span, is_covered, AreApart, AreGaps, IsFirst, sent_end, count_places, begins_gap, is_missing}
use Rattle.bt_flow.specs.declared.stream.Stream.{Stream}
use Rattle.bt_flow.specs.declared.noted.Noted.{Noted}
use Rattle.bt_flow.specs.Wide.{next_of}
use Rattle.bt_flow.specs.Notes.{spans_noted, is_full}
use Rattle.bt_flow.specs.Flows.{IsBaseNow, IsPlaceNow, IsStreamFor, AreNotedFor, is_captured, is_lost_stream, next_in}
use Rattle.bt_flow.specs.Counts.{gap_from, from_base}
use Rattle.bt_flow.proofs.Filled.{covered_in, one_reaches}

pub base_there : (heard : List Heard) (out : List ℕ) (o : Option Stream) (b : Option ℕ) (next x : ℕ) → IsPlaceNow heard out o (Some next)
    → IsBaseNow heard o b → x ≡ unwrap_or b next
    → IsBaseNow heard o (Some x)
base_there heard out None None next x p i e = subst (λ y. IsStart heard (Some y)) (sym e) p
base_there heard out None (Some k) next x p i e = subst (λ y. IsStart heard (Some y)) (sym e) i
base_there heard out (Some s) b next x p i e = (ap Some (e ∙ ap (λ o. unwrap_or o next) i.0), i.1)

pub noted_from : (heard : List Heard) (segs : List Segment) (out : List ℕ) (o : Option Stream) (n : Option Noted) (next : ℕ)
    → IsPlaceNow heard out o (Some next) → IsStreamFor heard segs out o
    → AreNotedFor segs o n
    → is_lost_stream o ≡ false → is_full n ≡ false → (i : ℕ) → next ≤ i → is_covered (spans_noted n) i ≡ is_captured segs i
noted_from heard segs out None n next p f a l full i h = ap (λ m. is_covered (spans_noted m) i) a ∙ sym (ap (λ x. is_captured x i) f.1)
noted_from heard segs out (Some s) n next p f a l full i h =
    let e : next ≡ s.base + length out = ap (λ o. unwrap_or o 0) p in
    let g : next_of s.window ≤ i = omega (arith, e, f.1.next_is, h) in
    a.all l full i g

pub past_from : (heard : List Heard) (segs : List Segment) (out : List ℕ) (o : Option Stream) (n : Option Noted) (next : ℕ)
    → IsPlaceNow heard out o (Some next) → IsStreamFor heard segs out o → AreNotedFor segs o n
    → is_full n ≡ false → (i j : ℕ) → next ≤ j → j ≤ i → is_covered (spans_noted n) j ≡ true → is_covered (spans_noted n) i ≡ is_captured segs i
past_from heard segs out None n next p f a full i j h g c = ap (λ m. is_covered (spans_noted m) i) a ∙ sym (ap (λ x. is_captured x i) f.1)
past_from heard segs out (Some s) n next p f a full i j h g c =
    let e : next ≡ s.base + length out = ap (λ o. unwrap_or o 0) p in
    a.past full i j (omega (arith, e, f.1.next_is, h)) g c

pub only_from : (heard : List Heard) (segs : List Segment) (out : List ℕ) (o : Option Stream) (n : Option Noted) (next : ℕ)
    → IsPlaceNow heard out o (Some next) → IsStreamFor heard segs out o
    → AreNotedFor segs o n → (i : ℕ) → next ≤ i → is_covered (spans_noted n) i ≡ true → is_captured segs i ≡ true
only_from heard segs out None n next p f a i h c = absurd (let z : true ≡ false = sym c ∙ ap (λ m. is_covered (spans_noted m) i) a in cc)
only_from heard segs out (Some s) n next p f a i h c =
    let e : next ≡ s.base + length out = ap (λ o. unwrap_or o 0) p in
    a.only i (omega (arith, e, f.1.next_is, h)) c

pub next_at : (heard : List Heard) (segs : List Segment) (out : List ℕ) (o : Option Stream) (next : ℕ) → IsPlaceNow heard out o (Some next)
    → IsStreamFor heard segs out o → next_in o ≤ next
next_at heard segs out None next p f = omega arith
next_at heard segs out (Some s) next p f =
    let e : next ≡ s.base + length out = ap (λ o. unwrap_or o 0) p in
    omega (arith, e, f.1.next_is)

-- The next place isn't noted.
pub next_missing : (heard : List Heard) (segs : List Segment) (out : List ℕ) (o : Option Stream) (n : Option Noted) (next : ℕ)
    → IsPlaceNow heard out o (Some next) → IsStreamFor heard segs out o → AreNotedFor segs o n → is_covered (spans_noted n) next ≡ false
next_missing heard segs out None n next p f a = ap (λ m. is_covered (spans_noted m) next) a
next_missing heard segs out (Some s) n next p f a =
    let e : next ≡ s.base + length out = ap (λ o. unwrap_or o 0) p in
    ap (is_covered (spans_noted n)) (e ∙ sym f.1.next_is) ∙ a.here

-- ---- where gaps end

end_least : (spans : List Span) (sent : ℕ) → sent ≤ sent_end spans sent
end_least [] sent = omega arith
end_least (s ∷ spans) sent = omega (arith, end_least spans sent)

ends_at : (spans : List Span) (sent : ℕ) → (least : ℕ) → AreApart least spans
    → (sent_end spans sent ≡ sent) ⊎ ((sent < sent_end spans sent) × (is_covered spans (sent_end spans sent - 1) ≡ true))
ends_at [] sent least a = inl refl
ends_at (s ∷ spans) sent least a = elim (cases_lt (sent_end spans sent) s.to) [
  | inl l ↦ elim (cases_lt sent s.to) [
    | inl m ↦ inr (omega (arith, m), covered_in s spans (sent_end (s ∷ spans) sent - 1) (omega (arith, l, a.1)) (omega (arith, l, a.1)))
    | inr m ↦ inl (omega (arith, l, m, end_least spans sent))
  ]
  | inr l ↦ elim (ends_at spans sent (s.to + 1) a.2) [
    | inl e ↦ inl (omega (arith, l, e))
    | inr e ↦ (
        let k : sent_end (s ∷ spans) sent ≡ sent_end spans sent = omega (arith, l) in
        inr (
          omega (arith, k, e.0),
          ap (λ x. is_covered (s ∷ spans) (x - 1)) k
              ∙ one_reaches (in_span s (sent_end spans sent - 1)) (is_covered spans (sent_end spans sent - 1)) e.1,
        ))
  ]
]

first_none : (covered : ℕ → Bool) (next e «end» : ℕ) (o : Option Gap) → e ≤ next → «end» ≤ next → IsFirst covered next e o → IsFirst covered next «end» o
first_none covered next e «end» None h l f = λ i a b. absurd (omega (arith, a, b, l))
first_none covered next e «end» (Some gap) h l f = absurd (omega (arith, f.after, f.within, f.some, h))

-- Past the end of gaps no place is covered.
gaps_none : (covered : ℕ → Bool) (next e «end» : ℕ) (gaps : Gaps) → e ≤ next → «end» ≤ next → AreGaps covered next e gaps → AreGaps covered next «end» gaps
gaps_none covered next e «end» gaps h l g =
    let k : e - next ≡ «end» - next = omega (arith, h, l) in
    record {
      first = first_none covered next e «end» gaps.first h l g.first;
      count = subst (λ n. gaps.count ≡ count_places (begins_gap covered next) next n) k g.count;
      sum = subst (λ n. gaps.sum ≡ count_places (is_missing covered) next n) k g.sum;
    }

pub gaps_within : (spans : List Span) (next «end» : ℕ) (gaps : Gaps) → AreApart 0 spans
    → ((i : ℕ) → next ≤ i → is_covered spans i ≡ true → i < «end»)
    → AreGaps (is_covered spans) next (sent_end spans «end») gaps → AreGaps (is_covered spans) next «end» gaps
gaps_within spans next «end» gaps a w g = elim (ends_at spans «end» 0 a) [
  | inl e ↦ subst (λ x. AreGaps (is_covered spans) next x gaps) e g
  | inr e ↦ elim (cases_lt next (sent_end spans «end»)) [
    | inl l ↦ absurd (let z = w (sent_end spans «end» - 1) (omega (arith, l)) e.1 in omega (arith, z, e.0))
    | inr l ↦ gaps_none (is_covered spans) next (sent_end spans «end») «end» gaps l (omega (arith, l, e.0)) g
  ]
]

-- The next place isn't covered, and so a gap begins there.
gap_at : (covered : ℕ → Bool) (next «end» : ℕ) (o : Option Gap) → IsFirst covered next «end» o → covered next ≡ false → next < «end»
    → (gap : Gap) × (o ≡ Some gap) × (gap.place ≡ next)
gap_at covered next «end» None f m l = absurd (let z : true ≡ false = sym (f next (omega arith) l) ∙ m in cc)
gap_at covered next «end» (Some gap) f m l = elim (cases_lt next gap.place) [
  | inl a ↦ absurd (let z : true ≡ false = sym (f.before next (omega arith) a) ∙ m in cc)
  | inr a ↦ (gap, refl, omega (arith, a, f.after))
]

pub first_at : (covered : ℕ → Bool) (base next «end» : ℕ) (found gaps : Gaps) → AreGaps covered next «end» found → gaps ≡ from_base base found
    → covered next ≡ false → next < «end» → (gap : Gap) × (gaps.first ≡ Some gap) × (gap.place ≡ next - base)
first_at covered base next «end» found gaps g e m l =
    let x = gap_at covered next «end» found.first g.first m l in (
      record { place = x.0.place - base; length = x.0.length },
      ap (λ y. y.first) e ∙ ap (gap_from base) x.1,
      ap (λ k. k - base) x.2,
    )

pub not_noted : (b c : Bool) → (b ≡ true → c ≡ true) → c ≡ false → b ≡ false
not_noted true c f e = absurd (let z : true ≡ false = sym (f refl) ∙ e in cc)
not_noted false c f e = refl
