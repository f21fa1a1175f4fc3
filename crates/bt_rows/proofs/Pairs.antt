-- Digits that are put into a text two at a time.
use Rattle.std.proofs.Common.{◌≡◌, ℕ, zero, suc, ◌+◌, ◌-◌, ◌*◌, ◌/◌, ◌%◌, ◌<◌, ◌≤◌, Bool, true, ◌&&◌, T, eqb, List, [], ◌∷◌, ◌++◌, length}
use Rattle.std.proofs.Common.{take, set, get_or, inl, inr, arith, eq-zero-or-pos, eqb→eq, append_assoc, length-set}
use Rattle.std.proofs.lemmas.List.{take_more_set}
use lib.Ieee.Fits.{and_l, and_r}
use Rattle.bt_rows.specs.Numbers.{two_digits, four_digits, six_digits}
use Rattle.bt_rows.specs.declared.numbers.TheConstants.{PAIRS}

abbrev are_pairs : ℕ → Bool
are_pairs zero = true
are_pairs (suc p) = (eqb (get_or PAIRS (p * 2) 0) (48 + p / 10) && eqb (get_or PAIRS (p * 2 + 1) 0) (48 + p % 10)) && are_pairs p

below : (n p : ℕ) → T (are_pairs n) → p < n → (get_or PAIRS (p * 2) 0 ≡ 48 + p / 10) × (get_or PAIRS (p * 2 + 1) 0 ≡ 48 + p % 10)
below zero p t h = absurd (omega arith)
below (suc n) p t h =
    elim (eq-zero-or-pos (n - p)) [
      | inl z ↦ let e : p ≡ n = omega arith in let a = and_l _ (are_pairs n) t in rw e (eqb→eq _ _ (and_l _ _ a), eqb→eq _ _ (and_r _ _ a))
      | inr g ↦ below n p (and_r _ (are_pairs n) t) (omega arith)
    ]

pub pair_at : (p : ℕ) → p < 100 → (get_or PAIRS (p * 2) 0 ≡ 48 + p / 10) × (get_or PAIRS (p * 2 + 1) 0 ≡ 48 + p % 10)
pair_at p h = below 100 p tt h

-- two bytes, one after the other
pub take_two : (xs : List ℕ) (i a b : ℕ) → i + 2 ≤ length xs → take (i + 2) (set (set xs i a) (i + 1) b) ≡ take i xs ++ (a ∷ b ∷ [])
take_two xs i a b h =
    let e : i + 2 ≡ i + 1 + 1 = omega arith in
    rw (e, take_more_set (set xs i a) (i + 1) b (omega (arith, length-set xs i a)), take_more_set xs i a (omega arith), append_assoc)

pub six_pairs : (n : ℕ) → two_digits (n / 10000 % 100) ++ four_digits (n % 10000) ≡ six_digits n
six_pairs n =
    let a : n / 10000 % 100 / 10 ≡ n / 100000 % 10 = omega arith in
    let b : n / 10000 % 100 % 10 ≡ n / 10000 % 10 = omega arith in
    let c : n % 10000 / 100 / 10 ≡ n / 1000 % 10 = omega arith in
    let d : n % 10000 / 100 % 10 ≡ n / 100 % 10 = omega arith in
    let e : n % 10000 % 100 / 10 ≡ n / 10 % 10 = omega arith in
    let f : n % 10000 % 100 % 10 ≡ n % 10 = omega arith in
    rw (a, b, c, d, e, f)
