-- Runs of keep-alives.
use Rattle.std.proofs.Common.{◌≡◌, ℕ, ◌+◌, zero, suc, List, drop, refl, sym, ap, subst, ◌∙◌, arith, inl, inr}
use Rattle.std.proofs.lemmas.Bool.{cases_lt}
use Rattle.std.proofs.lemmas.List.{get_or-drop}
use Rattle.std.specs.Prelude.{slice_index}
use Rattle.std.specs.Int.{w32, from_be_bytes}
use Rattle.bt_run.specs.Hints.{place_after, IsReached, AreZero}

pub first_reached : (b : List ℕ) → IsReached b 68
unfolding place_after
first_reached b = (zero, refl)

pub next_reached : (b : List ℕ) (n size : ℕ) → IsReached b n → size ≡ 4 + from_be_bytes w32 (drop n b) → IsReached b (n + size)
unfolding place_after
next_reached b n size r e = (suc r.0, ap (λ (k : ℕ). n + k) e ∙ ap (λ (k : ℕ). k + (4 + from_be_bytes w32 (drop k b))) r.1)

four_zero : (b : List ℕ) (p : ℕ) → from_be_bytes w32 (drop p b) ≡ 0 → (slice_index b (p + 0) ≡ 0) × (slice_index b (p + 1) ≡ 0)
    × (slice_index b (p + 2) ≡ 0) × (slice_index b (p + 3) ≡ 0)
four_zero b p z = (
  sym (get_or-drop p b 0 0) ∙ omega (arith, z),
  sym (get_or-drop p b 1 0) ∙ omega (arith, z),
  sym (get_or-drop p b 2 0) ∙ omega (arith, z),
  sym (get_or-drop p b 3 0) ∙ omega (arith, z),
)

zero_bytes : (b : List ℕ) (p : ℕ) → from_be_bytes w32 (drop p b) ≡ 0 → AreZero b p (p + 4)
zero_bytes b p z i le lt =
    let four = four_zero b p z in
    let P : ℕ → Type 0 = λ k. slice_index b k ≡ 0 in
    elim (cases_lt i (p + 1)) [
      | inl a ↦ subst P (omega (arith, a, le)) four.0
      | inr a ↦
          elim (cases_lt i (p + 2)) [
            | inl c ↦ subst P (omega (arith, a, c)) four.1
            | inr c ↦
                elim (cases_lt i (p + 3)) [
                  | inl d ↦ subst P (omega (arith, c, d)) four.2
                  | inr d ↦ subst P (omega (arith, d, lt)) four.3
                ]
          ]
    ]

pub more_zero : (b : List ℕ) (start place : ℕ) → AreZero b start place → 4 ≡ 4 + from_be_bytes w32 (drop place b) → AreZero b start (place + 4)
more_zero b start place zeros e i le lt =
    elim (cases_lt i place) [
      | inl a ↦ zeros i le a
      | inr a ↦ zero_bytes b place (omega (arith, e)) i a lt
    ]

pub none_zero : (b : List ℕ) (place : ℕ) → AreZero b place place
none_zero b place i le lt = absurd (omega (arith, le, lt))
