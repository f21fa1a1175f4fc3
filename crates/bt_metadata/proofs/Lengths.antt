-- How many blocks there are, and how long each is.
use Rattle.std.proofs.Common.{◌≡◌, ℕ, ◌+◌, ◌-◌, ◌*◌, ◌/◌, ◌%◌, ◌<◌, ◌≤◌, ◌⊎◌, inl, inr, min, List, length, take, drop, ◌++◌, ap, ◌∙◌, arith}
use Rattle.std.proofs.lemmas.Bool.{cases_lt, lt-ltb, le-ltb}
use Rattle.std.proofs.Math.Seq.{take-append_seam}
use Rattle.bt_ext.specs.Metadata.{block_count, block_len}

-- as it is counted
pub block_count_is : (n : ℕ) → n / 16384 + min 1 (n % 16384) ≡ block_count n
block_count_is n = omega arith

-- the blocks cover the whole, and the last one isn't empty
pub count_covers : (n : ℕ) → n ≤ 16384 * block_count n
count_covers n = omega arith

pub block_starts : (n k : ℕ) → k < block_count n → 16384 * k < n
block_starts n k h = omega arith

by_case : (n k : ℕ) → k < block_count n → (k < block_count n - 1) ⊎ (block_count n - 1 ≤ k) → min 16384 (n - 16384 * k) ≡ block_len n k
by_case n k h (inl l) = rw (lt-ltb k (block_count n - 1) l) (omega arith)
by_case n k h (inr l) =
    let e : k ≡ block_count n - 1 = omega arith in
    rw (le-ltb k (block_count n - 1) l) (omega (arith, e))

-- as it is measured
pub block_len_is : (n k : ℕ) → k < block_count n → min 16384 (n - 16384 * k) ≡ block_len n k
block_len_is n k h = by_case n k h (cases_lt k (block_count n - 1))

-- what is written over a whole list is the list
pub whole_slice : {X : Type 0} (n : ℕ) (xs ys : List X) → n ≡ length xs → take n (xs ++ drop (length xs) ys) ≡ xs
whole_slice n xs ys e = ap (λ k. take k (xs ++ drop (length xs) ys)) e ∙ take-append_seam xs (drop (length xs) ys)
