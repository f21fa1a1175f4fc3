-- How many have a number.
use Rattle.std.proofs.Common.{◌≡◌, ◌==◌, ℕ, ◌+◌, ◌-◌, ◌^◌, ◌<◌, ◌≤◌, min, cond, nat_lt, Bool, true, false, List, [], ◌∷◌, ◌++◌, arith}
use Rattle.std.specs.List.{count_by}
use Rattle.std.specs.List.Sorted.{IsPermutation}
use Rattle.std.proofs.lemmas.Bool.Decides.{nat_tests}
use Rattle.std.proofs.lemmas.List.Sorted.{sum_by-IsPermutation}
use Rattle.std.proofs.lemmas.List.Sums.{sum_by-cons, sum_by_push}

-- 1 if the test passes
abbrev pub one_if : Bool → ℕ
one_if b = cond b 1 0

pub same_counts : (m : ℕ) → one_if (m == m) ≡ 1
same_counts m = grind (arith, nat_tests)

pub same_number : (m n : ℕ) → (m == n) ≡ true → m ≡ n
same_number m n e = grind (arith, nat_tests)

pub not_equal : (m n : ℕ) → (m == n) ≡ false → m ≡ n → ⊥
not_equal m n e = grind (arith, nat_tests)

pub begun_counts : (b b' n : ℕ) → n < 2 ^ 64 - 1 → b' ≡ min (b + 1) (2 ^ 64 - 1)
    → one_if (b == n) + one_if (nat_lt n b) ≡ one_if (nat_lt n b')
begun_counts b b' n small e = grind (arith, nat_tests)

pub end_counts : (b c n : ℕ) → n < 2 ^ 64 - 1 → b ≡ min c (2 ^ 64 - 1) → one_if (nat_lt n b) ≡ one_if (nat_lt n c)
end_counts b c n small e = grind (arith, nat_tests)

pub at_most_one : (b n : ℕ) → one_if (nat_lt n b) ≤ 1
at_most_one b n = grind (arith, nat_tests)

pub none_began : (n : ℕ) → 0 ≡ one_if (nat_lt n 0)
none_began n = grind (arith, nat_tests)

pub one_if_began : (b n : ℕ) → n < b → 1 ≤ one_if (nat_lt n b)
one_if_began b n e = grind (arith, nat_tests)

pub one_began : (b n : ℕ) → 1 ≤ one_if (nat_lt n b) → n < b
one_began b n e = grind (arith, nat_tests)

module _ {X : Type 0} (number : X → ℕ) where
  abbrev pub counted : ℕ → List X → ℕ
  counted n xs = count_by (λ x. number x == n) xs

  pub counted_push : (n : ℕ) (xs : List X) (x : X) → counted n (xs ++ x ∷ []) ≡ counted n xs + one_if (number x == n)
  counted_push n xs x = sum_by_push (λ y. cond (number y == n) 1 0) xs x

  pub counted_cons : (n : ℕ) (x : X) (xs : List X) → counted n (x ∷ xs) ≡ one_if (number x == n) + counted n xs
  counted_cons n x xs = sum_by-cons (λ y. cond (number y == n) 1 0) x xs

  pub counted_moved : (n : ℕ) (xs ys : List X) → IsPermutation xs ys → counted n ys ≡ counted n xs
  counted_moved n xs ys i = sum_by-IsPermutation (λ y. cond (number y == n) 1 0) xs ys i
