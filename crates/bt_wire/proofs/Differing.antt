-- The first place at which two lists differ.
use Rattle.std.proofs.Common.{◌≡◌, ◌≢◌, ℕ, ◌+◌, ◌≤◌, ◌<◌, cond, eqb, List, [], ◌∷◌, length, drop, get_or, min, Option, Some, None, refl, ap, ◌∙◌, arith}
use Rattle.std.proofs.Common.{inl, inr}
use Rattle.std.specs.Prelude.{option_map}
use Rattle.std.proofs.lemmas.Bool.{cases_lt, eq-eqb, ne_eqb}
use Rattle.std.proofs.lemmas.List.{drop_more, drop_all}
use Rattle.bt_wire.specs.Handshakes.{first_difference}

-- the place, counted from i places before
abbrev pub shifted : ℕ → Option ℕ → Option ℕ
shifted i o = option_map (λ k. k + i) o

shifted_more : (i : ℕ) (o : Option ℕ) → shifted i (option_map (λ k. k + 1) o) ≡ shifted (i + 1) o
shifted_more i None = refl
shifted_more i (Some k) = ap Some (omega arith)

pub shifted_none : (o : Option ℕ) → shifted 0 o ≡ o
shifted_none None = refl
shifted_none (Some k) = ap Some (omega arith)

heads : (xs ys : List ℕ) (i : ℕ) → i < length xs → i < length ys →
    first_difference (drop i xs) (drop i ys) ≡ cond (eqb (get_or xs i 0) (get_or ys i 0))
    (option_map (λ k. k + 1) (first_difference (drop (i + 1) xs) (drop (i + 1) ys))) (Some 0)
heads xs ys i lx ly = rw (drop_more xs i 0 lx, drop_more ys i 0 ly) refl

pub same_head : (xs ys : List ℕ) (i : ℕ) → i < length xs → i < length ys → get_or xs i 0 ≡ get_or ys i 0
    → shifted i (first_difference (drop i xs) (drop i ys)) ≡ shifted (i + 1) (first_difference (drop (i + 1) xs) (drop (i + 1) ys))
same_head xs ys i lx ly e =
    ap (shifted i) (heads xs ys i lx ly ∙ rw (eq-eqb (get_or xs i 0) (get_or ys i 0) e) refl)
    ∙ shifted_more i (first_difference (drop (i + 1) xs) (drop (i + 1) ys))

pub other_head : (xs ys : List ℕ) (i : ℕ) → i < length xs → i < length ys → get_or xs i 0 ≢ get_or ys i 0
    → shifted i (first_difference (drop i xs) (drop i ys)) ≡ Some i
other_head xs ys i lx ly e =
    let apart : first_difference (drop i xs) (drop i ys) ≡ Some 0 = heads xs ys i lx ly ∙ rw (ne_eqb (get_or xs i 0) (get_or ys i 0) e) refl in
    ap (shifted i) apart ∙ ap Some (omega arith)

nothing_left : (xs : List ℕ) → first_difference xs [] ≡ None
nothing_left [] = refl
nothing_left (x ∷ xs) = refl

pub one_ends : (xs ys : List ℕ) (i n : ℕ) → n ≡ min (length xs) (length ys) → n ≤ i → shifted i (first_difference (drop i xs) (drop i ys)) ≡ None
one_ends xs ys i n e le =
    elim (cases_lt i (length xs)) [
      | inl lt ↦ ap (shifted i) (ap (first_difference (drop i xs)) (drop_all i ys (omega arith)) ∙ nothing_left (drop i xs))
      | inr ge ↦ ap (λ (zs : List ℕ). shifted i (first_difference zs (drop i ys))) (drop_all i xs ge)
    ]
