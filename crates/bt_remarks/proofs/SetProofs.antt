-- A write of one byte, bit by bit.
use Rattle.std.proofs.Common.{◌≡◌, ◌≢◌, ◌+◌, ◌-◌, ◌*◌, ◌/◌, ◌%◌, ◌^◌, ◌<◌, ℕ, ◌||◌, if◌then◌else◌, eqb, ltb, List, length, get_or, set, take, max, bit_or}
use Rattle.std.proofs.Common.{◌∙◌, ap, ⊎_elim, arith, w8, get_or-set_other, get_or-set_same, length-take}
use Rattle.std.proofs.lemmas.Bool.{cases_eq}
use Rattle.std.proofs.lemmas.Grind.{get_or_default_zero, common_steps}
use Rattle.std.proofs.lemmas.Bool.Decides.{nat_tests}
use Rattle.std.proofs.lemmas.Nat.Bits.{bit_at_or, bit_at-lt, bit_at_set_same, bit_at_set_other}
use Rattle.std.specs.Int.{bit_at}
use Rattle.bt_remarks.specs.Sets.{has_bit, with_piece}

-- the larger of two bits
max_bit : (a b : ℕ) → a < 2 → b < 2 → eqb (max a b) 1 ≡ (eqb b 1 || eqb a 1)
max_bit a b p q = grind (arith, nat_tests)

-- a bit, after another byte was joined to its byte
joined_bit : (x b i : ℕ) → eqb (bit_at (bit_or x b) i) 1 ≡ (eqb (bit_at b i) 1 || eqb (bit_at x i) 1)
joined_bit x b i = ap (λ n. eqb n 1) (bit_at_or x b i) ∙ max_bit (bit_at x i) (bit_at b i) (bit_at-lt x i) (bit_at-lt b i)

-- a bit, after another byte was joined to one
pub joined : (fs : List ℕ) (i k b x : ℕ) → i < length fs → x ≡ get_or fs i x
    → has_bit (set fs i (bit_or x b)) k ≡ (if eqb (k / 8) i then eqb (bit_at b (7 - k % 8)) 1 || has_bit fs k else has_bit fs k)
joined fs i k b x h e =
    let zero_is = e ∙ get_or_default_zero fs i x h in
    ⊎_elim (λ same. grind (arith, nat_tests, same, zero_is, get_or-set_same, joined_bit x b (7 - k % 8))) (λ other. grind
    (arith, nat_tests, other, get_or-set_other)) (cases_eq (k / 8) i)

-- a bit of the byte that one piece's bit was joined to
same_byte : (p k x : ℕ) → p < 2 ^ 23 → k / 8 ≡ p / 8 → eqb (bit_at (bit_or x (1 * 2 ^ (7 - p % 8) % 256)) (7 - k % 8)) 1 ≡ with_piece p k (eqb
    (bit_at x (7 - k % 8)) 1)
same_byte p k x small same =
    let within : 7 - p % 8 < 8 = omega arith in
    ⊎_elim (λ (one : k ≡ p). grind (arith, nat_tests, one, bit_at_set_same w8 x (7 - p % 8) within))
    (λ (two : k ≢ p). let apart : (7 - k % 8) ≢ (7 - p % 8) = omega arith in grind (
      arith,
      nat_tests,
      two,
      bit_at_set_other w8 x (7 - p % 8) within
          (7 - k % 8) apart,
    ))
    (cases_eq k p)

pub inserted : (fs : List ℕ) (p k x : ℕ) → p < 2 ^ 23 → p / 8 < length fs → x ≡ get_or fs (p / 8) x
    → has_bit (set fs (p / 8) (bit_or x (1 * 2 ^ (7 - p % 8) % 256))) k ≡ with_piece p k (has_bit fs k)
inserted fs p k x small h e =
    let zero_is = e ∙ get_or_default_zero fs (p / 8) x h in
    ⊎_elim (λ same. grind (arith, same, zero_is, get_or-set_same, same_byte p k x small same)) (λ other. grind
    (arith, nat_tests, other, get_or-set_other)) (cases_eq (k / 8) (p / 8))

-- a loop's step: the byte at i was joined
pub stepped : (fs field before : List ℕ) (i len k x : ℕ) → i < length (take len field) → i < length fs → x ≡ get_or fs i x
    → has_bit fs k ≡ (if ltb (k / 8) i then has_bit field k || has_bit before k else has_bit before k)
    → has_bit (set fs i (bit_or x (get_or (take len field) i 0))) k ≡ (if ltb (k / 8) (i + 1) then has_bit field k || has_bit before k else has_bit before k)
stepped fs field before i len k x test h e so_far =
    let below : i < len = omega (arith, length-take len field) in
    joined fs i k (get_or (take len field) i 0) x h e
    ∙ ⊎_elim (λ (same : k / 8 ≡ i). grind (arith, nat_tests, common_steps, same, so_far)) (λ (other : k / 8 ≢ i). grind
    (arith, nat_tests, other, so_far)) (cases_eq (k / 8) i)
