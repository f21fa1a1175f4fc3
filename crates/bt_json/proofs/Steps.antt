-- The bytes before the first of those that a step finds to need an escape.
use Rattle.std.proofs.Common.{◌≡◌, ◌+◌, ◌-◌, ◌%◌, ◌^◌, ◌<◌, ◌≤◌, ◌||◌, [], ◌∷◌, List, ℕ, zero, suc, Bool, true, false, inl, inr, refl}
use Rattle.std.proofs.Common.{sym, ap, ap₂, ◌∙◌, arith, bit_or, cond, eqb, get_or, length, map, ltb, replicate}
use Rattle.std.proofs.lemmas.Bool.{cases_lt}
use Rattle.std.proofs.lemmas.List.{length-map}
use Rattle.std.proofs.lemmas.List.Sums.{prefix_len-le-length, prefix_len_passes}
use Rattle.std.proofs.lemmas.Simd.{get_or-chunk, leading_from_mask_l, length-chunk, mask_l-mod, trailing_mask_l}
use Rattle.std.specs.List.{prefix_len}
use lib.Count.{count_trailing_zeros}
use lib.Lanes.{chunk, mask_l, top, zip2}
use Rattle.json.specs.Run.{is_plain, is_stop}
use Rattle.json.specs.Written.{PlainBetween}

abbrev hit : ℕ → ℕ → ℕ
hit a b = cond (eqb a b) 255 0

abbrev below : ℕ → ℕ → ℕ
below a b = cond (ltb a b) 255 0

any_of : (a b c : Bool) → top 7 (bit_or (bit_or (cond a 255 0) (cond b 255 0)) (cond c 255 0)) ≡ (a || b || c)
any_of true true true = refl
any_of true true false = refl
any_of true false true = refl
any_of true false false = refl
any_of false true true = refl
any_of false true false = refl
any_of false false true = refl
any_of false false false = refl

-- the three tests of a vector of n lanes, as the code makes them
abbrev tests : List ℕ → ℕ → List Bool
tests v n = map (top 7) (zip2 bit_or (zip2 bit_or (zip2 hit v (replicate n 34)) (zip2 hit v (replicate n 92))) (zip2 below v (replicate n 32)))

tests_stop : (v : List ℕ) (n : ℕ) → length v ≡ n → tests v n ≡ map is_stop v
tests_stop [] n e = refl
tests_stop (x ∷ xs) zero e = absurd (omega arith)
tests_stop (x ∷ xs) (suc n) e = ap₂ (λ (a : Bool) (b : List Bool). a ∷ b) (any_of (eqb x 34) (eqb x 92) (ltb x 32)) (tests_stop xs n (omega arith))

pub stops_mask : (v : List ℕ) (n : ℕ) → length v ≡ n → n ≤ 64 → mask_l (tests v n) % 2 ^ 64 ≡ mask_l (map is_stop v)
stops_mask v n long few =
    ap (λ (l : List Bool). mask_l l % 2 ^ 64) (tests_stop v n long) ∙ mask_l-mod (map is_stop v) 64 (omega (arith, length-map v is_stop))

run_length : (v : List ℕ) (m : ℕ) → length v ≤ 64 → m ≤ length v → (0 < mask_l (map is_stop v) → m ≤ count_trailing_zeros 64 (mask_l (map is_stop v)))
    → m ≤ prefix_len is_plain v
run_length v m few short before =
    elim (cases_lt 0 (mask_l (map is_stop v))) [
      | inl some ↦ omega (arith, trailing_mask_l is_stop 64 v few some, before some)
      | inr none ↦ omega (arith, leading_from_mask_l is_stop v (omega (arith, none)), short)
    ]

pub stop_within : (d : List ℕ) (i n : ℕ) → i + n ≤ length d → n ≤ 64 → 0 < mask_l (map is_stop (chunk i n d))
    → count_trailing_zeros 64 (mask_l (map is_stop (chunk i n d))) ≤ n
stop_within d i n room few some =
    let size = length-chunk i n d room in
    omega (arith, size, trailing_mask_l is_stop 64 (chunk i n d) (omega (arith, size)) some, prefix_len-le-length is_plain (chunk i n d))

pub plain_step : (d : List ℕ) (i n m : ℕ) → i + n ≤ length d → n ≤ 64 → PlainBetween d 0 i → m ≤ n
    → (0 < mask_l (map is_stop (chunk i n d)) → m ≤ count_trailing_zeros 64 (mask_l (map is_stop (chunk i n d)))) → PlainBetween d 0 (i + m)
plain_step d i n m room few plain short before k p q =
    let size = length-chunk i n d room in
    let long = run_length (chunk i n d) m (omega (arith, size)) (omega (arith, size)) before in
    elim (cases_lt k i) [
      | inl under ↦ plain k p under
      | inr over ↦
          let back : i + (k - i) ≡ k = omega arith in
          ap is_plain (sym (get_or-chunk i n d (k - i) 0 (omega arith) ∙ ap (λ (j : ℕ). get_or d j 0) back))
          ∙ prefix_len_passes is_plain (chunk i n d) (k - i) 0 (omega arith)
    ]
