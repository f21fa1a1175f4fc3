-- Bytes that are kept in pages.
use Rattle.std.proofs.Common.{◌≡◌, ◌≢◌, ℕ, ◌+◌, ◌-◌, ◌*◌, ◌/◌, ◌%◌, ◌<◌, ◌≤◌, List, length, slice_get, get_or, take, drop, refl, sym, ap, ◌∙◌, arith, Option, inl, inr}
use Rattle.std.specs.Prelude.{Some, None}
use Rattle.std.specs.Global.{Vec}
use Rattle.std.proofs.lemmas.List.{get_or_past}
use Rattle.std.proofs.lemmas.Option.{slice_get-get_or}
use Rattle.std.proofs.lemmas.Bool.{cases_lt, cases_order}
use Rattle.std.proofs.Common.{length-take}
use Rattle.bt_tcp.specs.Segments.{Segment, or_else, byte_in}
use Rattle.bt_tcp.proofs.Gets.{slice_get-take, slice_get-drop}
use Rattle.bt_tcp.proofs.Bytes.{HasFront, or_else-None, byte_in-at, byte_in-before, byte_in-past, byte_in-more_at, byte_in-less_at, byte_in-other, byte_in-shift, byte_in-nil}
use Rattle.bt_flow.specs.Pages.{cell, in_page}

-- A page was made longer.
pub lengthened : (xs ys : List (Option ℕ)) → length xs < 64 → length ys ≡ 64
    → ((k : ℕ) → k < 64 → k < length xs → cell ys k ≡ cell xs k) → ((k : ℕ) → length xs ≤ k → k < 64 → cell ys k ≡ None)
    → (k : ℕ) → cell ys k ≡ cell xs k
lengthened xs ys short long same none k = elim (cases_lt k (length xs)) [
  | inl l ↦ same k (omega (arith, l, short)) l
  | inr l ↦ elim (cases_lt k 64) [
    | inl b ↦ none k l b ∙ sym (get_or_past xs k None l)
    | inr b ↦ get_or_past ys k None (omega (arith, b, long)) ∙ sym (get_or_past xs k None l)
  ]
]

-- One more byte is put, if there was none.
pub front_step : (now now' before : ℕ → Option ℕ) (gap j : ℕ) (bytes : List ℕ) → HasFront now before gap j bytes → j < length bytes
    → now' (gap + j) ≡ or_else (now (gap + j)) (Some (get_or bytes j 0)) → ((k : ℕ) → k ≢ gap + j → now' k ≡ now k)
    → HasFront now' before gap (j + 1) bytes
front_step now now' before gap j bytes f h a b k =
    elim (cases_order k (gap + j)) [
      | inl q ↦ rw q (a ∙ ap (λ o. or_else o (Some (get_or bytes j 0))) (f (gap + j) ∙ ap (or_else (before (gap + j))) (byte_in-less_at gap j bytes)
          ∙ or_else-None (before (gap + j))) ∙ ap (or_else (before (gap + j))) (sym (byte_in-more_at gap j bytes h)))
      | inr q ↦ (let ne : k ≢ gap + j = λ w. elim q [ inl a ↦ omega arith | inr b ↦ omega arith ] in b k ne ∙ f k
          ∙ ap (or_else (before k)) (sym (byte_in-other gap j bytes k ne)))
    ]

pub front_none : (now before : ℕ → Option ℕ) (gap : ℕ) (bytes : List ℕ) → ((k : ℕ) → now k ≡ before k) → HasFront now before gap 0 bytes
front_none now before gap bytes e k =
    e k ∙ sym (ap (or_else (before k)) (byte_in-nil gap k) ∙ or_else-None (before k))

-- A page was filled, and the others stay.
pub page_kept : (before after : ℕ → Option (Vec (Option ℕ))) (page page' : Vec (Option ℕ)) (at : ℕ) (part : List ℕ)
    → ((j : ℕ) → cell page.items j ≡ in_page (before (at / 64)) j)
    → ((k : ℕ) → cell page'.items k ≡ or_else (cell page.items k) (byte_in (record { place = at % 64; bytes = part }) k))
    → after (at / 64) ≡ Some page' → ((q : ℕ) → q ≢ at / 64 → after q ≡ before q) → at % 64 + length part ≤ 64
    → (i : ℕ) → in_page (after (i / 64)) (i % 64) ≡ or_else (in_page (before (i / 64)) (i % 64)) (byte_in (record { place = at; bytes = part }) i)
page_kept before after page page' at part old new here others room i =
    elim (cases_order (i / 64) (at / 64)) [
      | inl q ↦ (
          let s : 64 * (at / 64) + at % 64 ≡ at = omega arith in
          let t : 64 * (at / 64) + i % 64 ≡ i = omega (arith, q) in
          let moved : byte_in (record { place = at % 64; bytes = part }) (i % 64) ≡ byte_in (record { place = at; bytes = part }) i
          = byte_in-shift (64 * (at / 64)) (at % 64) (i % 64) part
          ∙ ap (λ n. byte_in (record { place = n; bytes = part }) (64 * (at / 64) + i % 64)) s
          ∙ ap (byte_in (record { place = at; bytes = part })) t in
          rw q (ap (λ o. in_page o (i % 64)) here ∙ new (i % 64) ∙ ap (λ o. or_else o (byte_in (record { place = at % 64; bytes = part }) (i % 64))) (old (i % 64))
          ∙ ap (or_else (in_page (before (at / 64)) (i % 64))) moved))
      | inr q ↦ (
          let ne : i / 64 ≢ at / 64 = λ w. elim q [ inl a ↦ omega arith | inr b ↦ omega arith ] in
          let none : byte_in (record { place = at; bytes = part }) i ≡ None
          = elim (cases_lt i at) [
            | inl l ↦ byte_in-before (record { place = at; bytes = part }) i l
            | inr l ↦ byte_in-past (record { place = at; bytes = part }) i (elim q [ inl a ↦ omega (arith, a, l, room) | inr b ↦ omega (arith, b, l, room) ])
          ] in
          ap (λ o. in_page o (i % 64)) (others (i / 64) ne) ∙ sym (ap (or_else (in_page (before (i / 64)) (i % 64))) none ∙ or_else-None (in_page (before (i / 64)) (i % 64))))
    ]

-- a segment in two parts, one after the other
byte_in-parts : (at d n i : ℕ) (part : List ℕ) → d + n ≤ length part
    → or_else (byte_in (record { place = at; bytes = take d part }) i) (byte_in (record { place = at + d; bytes = take n (drop d part) }) i)
    ≡ byte_in (record { place = at; bytes = take (d + n) part }) i
byte_in-parts at d n i part h =
    let first : Segment = record { place = at; bytes = take d part } in
    let second : Segment = record { place = at + d; bytes = take n (drop d part) } in
    let both : Segment = record { place = at; bytes = take (d + n) part } in
    elim (cases_lt i at) [
      | inl l ↦ ap (λ o. or_else o (byte_in second i)) (byte_in-before first i l) ∙ byte_in-before second i (omega (arith, l)) ∙ sym (byte_in-before both i l)
      | inr l ↦ (
          let k : ℕ = i - at in
          let e : at + k ≡ i = omega (arith, l) in
          elim (cases_lt k d) [
            | inl a ↦ (
                let x : byte_in first i ≡ Some (get_or part k 0)
                = ap (byte_in first) (sym e) ∙ byte_in-at first k ∙ slice_get-take part d k a ∙ slice_get-get_or part k 0 (omega (arith, a, h)) in
                let y : byte_in both i ≡ Some (get_or part k 0)
                = ap (byte_in both) (sym e) ∙ byte_in-at both k ∙ slice_get-take part (d + n) k (omega (arith, a)) ∙ slice_get-get_or part k 0 (omega (arith, a, h)) in
                ap (λ o. or_else o (byte_in second i)) x ∙ sym y)
            | inr a ↦ (
                let past : byte_in first i ≡ None = byte_in-past first i (omega (arith, a, l, length-take d part)) in
                let m : ℕ = k - d in
                let f : at + d + m ≡ i = omega (arith, a, e) in
                let dm : d + m ≡ k = omega (arith, a) in
                ap (λ o. or_else o (byte_in second i)) past ∙ elim (cases_lt m n) [
                  | inl b ↦ (
                      ap (byte_in second) (sym f) ∙ byte_in-at second m ∙ slice_get-take (drop d part) n m b ∙ slice_get-drop part d m
                      ∙ ap (slice_get part) dm ∙ sym (slice_get-take part (d + n) k (omega (arith, b, dm))) ∙ sym (byte_in-at both k) ∙ ap (byte_in both) e)
                  | inr b ↦ byte_in-past second i (omega (arith, b, f, length-take n (drop d part)))
                      ∙ sym (byte_in-past both i (omega (arith, b, e, dm, length-take (d + n) part)))
                ])
          ])
    ]

or_assoc : (a b c : Option ℕ) → or_else (or_else a b) c ≡ or_else a (or_else b c)
or_assoc (Some x) b c = refl
or_assoc None b c = refl

-- One more part of a segment was kept.
pub kept_more : (now now' before : ℕ → Option ℕ) (at d n : ℕ) (part : List ℕ) → d + n ≤ length part
    → ((i : ℕ) → now i ≡ or_else (before i) (byte_in (record { place = at; bytes = take d part }) i))
    → ((i : ℕ) → now' i ≡ or_else (now i) (byte_in (record { place = at + d; bytes = take n (drop d part) }) i))
    → (i : ℕ) → now' i ≡ or_else (before i) (byte_in (record { place = at; bytes = take (d + n) part }) i)
kept_more now now' before at d n part h f g i =
    g i ∙ ap (λ o. or_else o (byte_in (record { place = at + d; bytes = take n (drop d part) }) i)) (f i)
    ∙ or_assoc (before i) (byte_in (record { place = at; bytes = take d part }) i) (byte_in (record { place = at + d; bytes = take n (drop d part) }) i)
    ∙ ap (or_else (before i)) (byte_in-parts at d n i part h)
