-- Lemmas on flags that take a bit each.
use Rattle.std.proofs.Common.{◌≡◌, ℕ, ◌+◌, ◌-◌, ◌*◌, ◌/◌, ◌%◌, ◌^◌, ◌<◌, ◌≤◌, ◌⊎◌, Bool, true, false, eqb, List, length, get_or, set}
use Rattle.std.proofs.Common.{max, min, bit_or, bit_and, bit_xor}
use Rattle.std.proofs.Common.{refl, sym, ap, ◌∙◌, arith, inl, inr}
use Rattle.std.specs.Prelude.{if◌then◌else◌}
use Rattle.std.proofs.lemmas.Bool.{cases_lt, cases_eq}
use Rattle.std.proofs.lemmas.Bool.Decides.{nat_tests}
use Rattle.std.proofs.lemmas.List.{get_or-set_same, get_or-set_other}
use Rattle.std.proofs.lemmas.Nat.Bits.{bit_at_or, bit_at_and, bit_at_xor, bit_at-lt, bit_at_ones, bit_at-zero}
use Rattle.std.proofs.lemmas.Nat.Bits.{bit_at_mask_inside, bit_at_mask_below, bit_at_mask_above}
use Rattle.std.proofs.Math.Pow.{pow_mono}
use Rattle.std.specs.Int.{bit_at}
use Rattle.bt_tcp.specs.Bits.{bit, flag, whole, IsFilled, IsCopiedTo}

-- two bytes that are alike at a place
pub flag-same : (xs ys : List ℕ) (j k : ℕ) → get_or xs (j / 8) 0 ≡ get_or ys (k / 8) 0 → j % 8 ≡ k % 8 → flag xs j ≡ flag ys k
unfolding flag
flag-same xs ys j k e f = ap (λ x. bit x (j % 8)) e ∙ ap (bit (get_or ys (k / 8) 0)) f

pub flag-is : (xs : List ℕ) (k x : ℕ) → get_or xs (k / 8) 0 ≡ x → flag xs k ≡ bit x (k % 8)
unfolding flag
flag-is xs k x e = ap (λ x. bit x (k % 8)) e

set_0 : (x m : ℕ) → x < 2 → m ≡ 1 → eqb ((x + min x m) % 2) 1 ≡ false
set_0 x m l e = grind (arith, nat_tests)

keep_0 : (x m : ℕ) → x < 2 → m ≡ 0 → eqb ((x + min x m) % 2) 1 ≡ eqb x 1
keep_0 x m l e = grind (arith, nat_tests)

set_1 : (x m : ℕ) → x < 2 → m ≡ 1 → eqb (max x m) 1 ≡ true
set_1 x m l e = grind (arith, nat_tests)

keep_1 : (x m : ℕ) → x < 2 → m ≡ 0 → eqb (max x m) 1 ≡ eqb x 1
keep_1 x m l e = grind (arith, nat_tests)

bit_or-is : (b m i : ℕ) → bit (bit_or b m) i ≡ eqb (max (bit_at b i) (bit_at m i)) 1
bit_or-is b m i = ap (λ n. eqb n 1) (bit_at_or b m i)

bit_out-is : (b m i : ℕ) → bit (bit_xor b (bit_and b m)) i ≡ eqb ((bit_at b i + min (bit_at b i) (bit_at m i)) % 2) 1
bit_out-is b m i = ap (λ n. eqb n 1) (bit_at_xor b (bit_and b m) i ∙ ap (λ n. (bit_at b i + n) % 2) (bit_at_and b m i))

-- a byte with bits set, or taken away, by a mask
abbrev pub masked : Bool → ℕ → ℕ → ℕ
masked value b m = if value then bit_or b m else bit_xor b (bit_and b m)

pub small_power : (n : ℕ) → n ≤ 8 → 1 * 2 ^ n % 65536 ≡ 2 ^ n
small_power n h =
    let below : 2 ^ n ≤ 2 ^ 8 = pow_mono h in
    let l : 2 ^ n ≤ 256 = below in
    omega (arith, l)

pub mask_order : (i j : ℕ) → i ≤ j → j ≤ 8 → 1 * 2 ^ i % 65536 ≤ 1 * 2 ^ j % 65536
mask_order i j h l = (let m : 2 ^ i ≤ 2 ^ j = pow_mono h in omega (arith, m, small_power i (omega arith), small_power j l))

mask_in : (m from to i : ℕ) → m ≡ 2 ^ to - 2 ^ from → from ≤ i → i < to → bit_at m i ≡ 1
mask_in m from to i e l h = ap (λ x. bit_at x i) e ∙ bit_at_mask_inside from to i l h

pub masked_in : (value : Bool) (b m from to i : ℕ) → m ≡ 2 ^ to - 2 ^ from → from ≤ i → i < to → bit (masked value b m) i ≡ value
masked_in true b m from to i e l h = bit_or-is b m i ∙ set_1 (bit_at b i) (bit_at m i) (bit_at-lt b i) (mask_in m from to i e l h)
masked_in false b m from to i e l h = bit_out-is b m i ∙ set_0 (bit_at b i) (bit_at m i) (bit_at-lt b i) (mask_in m from to i e l h)

mask_out : (m from to i : ℕ) → m ≡ 2 ^ to - 2 ^ from → (i < from) ⊎ (to ≤ i) → bit_at m i ≡ 0
mask_out m from to i e (inl l) = ap (λ x. bit_at x i) e ∙ bit_at_mask_below from to i l
mask_out m from to i e (inr l) = ap (λ x. bit_at x i) e ∙ bit_at_mask_above from to i l

pub masked_out : (value : Bool) (b m from to i : ℕ) → m ≡ 2 ^ to - 2 ^ from → (i < from) ⊎ (to ≤ i) → bit (masked value b m) i ≡ bit b i
masked_out true b m from to i e o = bit_or-is b m i ∙ keep_1 (bit_at b i) (bit_at m i) (bit_at-lt b i) (mask_out m from to i e o)
masked_out false b m from to i e o = bit_out-is b m i ∙ keep_0 (bit_at b i) (bit_at m i) (bit_at-lt b i) (mask_out m from to i e o)

pub mask_is : (from to : ℕ) → from ≤ to → to ≤ 8 → 1 * 2 ^ to % 65536 - 1 * 2 ^ from % 65536 ≡ 2 ^ to - 2 ^ from
mask_is from to h l = omega (arith, small_power to l, small_power from (omega arith))

-- ---- bytes

pub filled_byte : (bits bits' : List ℕ) (at from to : ℕ) (value : Bool) (v : ℕ) → at < length bits → to ≤ 8 → bits' ≡ set bits at v
    → ((i : ℕ) → from ≤ i → i < to → bit v i ≡ value) → ((i : ℕ) → i < 8 → (i < from) ⊎ (to ≤ i) → bit v i ≡ bit (get_or bits at 0) i)
    → IsFilled bits (8 * at + from) (8 * at + to) value bits'
filled_byte bits bits' at from to value v h l e a b = record {
  inside = λ k m n. (
      let q : k / 8 ≡ at = omega arith in
      let s : get_or bits' (k / 8) 0 ≡ v = ap (λ i. get_or bits' i 0) q ∙ ap (λ x. get_or x at 0) e ∙ get_or-set_same bits at v 0 h in
      flag-is bits' k v s ∙ a (k % 8) (omega arith) (omega arith));
  outside = λ k o. elim (cases_eq (k / 8) at) [
    | inl q ↦ (
        let s : get_or bits' (k / 8) 0 ≡ v = ap (λ i. get_or bits' i 0) q ∙ ap (λ x. get_or x at 0) e ∙ get_or-set_same bits at v 0 h in
        let m : k % 8 < 8 = omega arith in
        let o' : (k % 8 < from) ⊎ (to ≤ k % 8) = elim o [ inl x ↦ inl (omega arith) | inr x ↦ inr (omega arith) ] in
        flag-is bits' k v s ∙ b (k % 8) m o' ∙ sym (flag-is bits k (get_or bits at 0) (ap (λ i. get_or bits i 0) q)))
    | inr q ↦ flag-same bits' bits k k (ap (λ x. get_or x (k / 8) 0) e ∙ get_or-set_other bits at (k / 8) v 0 q) refl
  ];
}

whole_is : (value : Bool) (i : ℕ) → i < 8 → bit (whole value) i ≡ value
whole_is true i h = ap (λ n. eqb n 1) (bit_at_ones 8 i h)
whole_is false i h = ap (λ n. eqb n 1) (bit_at-zero i)

pub flag-whole : (bits : List ℕ) (k : ℕ) (value : Bool) → get_or bits (k / 8) 0 ≡ whole value → flag bits k ≡ value
flag-whole bits k value e = flag-is bits k (whole value) e ∙ whole_is value (k % 8) (omega arith)

pub filled_bytes : (bits bits' : List ℕ) (from to : ℕ) (value : Bool) → ((i : ℕ) → from ≤ i → i < to → get_or bits' i 0 ≡ whole value)
    → ((i : ℕ) → (i < from) ⊎ (to ≤ i) → get_or bits' i 0 ≡ get_or bits i 0) → IsFilled bits (8 * from) (8 * to) value bits'
filled_bytes bits bits' from to value a b = record {
  inside = λ k m n. flag-whole bits' k value (a (k / 8) (omega arith) (omega arith));
  outside = λ k o. (
      let o' : (k / 8 < from) ⊎ (to ≤ k / 8) = elim o [ inl x ↦ inl (omega arith) | inr x ↦ inr (omega arith) ] in
      flag-same bits' bits k k (b (k / 8) o') refl);
}

-- First some flags were copied, and then a run of equal ones after those.
pub copied_more : (bits : List ℕ) (from count more : ℕ) (to : List ℕ) (at : ℕ) (b c : List ℕ) (value : Bool) → count ≤ more
    → IsCopiedTo bits from count to at b → ((k : ℕ) → count ≤ k → k < more → flag bits (from + k) ≡ value) → IsFilled b (at + count) (at + more) value c
    → IsCopiedTo bits from more to at c
copied_more bits from count more to at b c value h p same q = record {
  inside = λ k l. elim (cases_lt k count) [
    | inl x ↦ q.outside (at + k) (inl (omega arith)) ∙ p.inside k x
    | inr x ↦ q.inside (at + k) (omega arith) (omega arith) ∙ sym (same k x l)
  ];
  outside = λ k o. elim o [
    | inl x ↦ q.outside k (inl (omega arith)) ∙ p.outside k (inl x)
    | inr x ↦ q.outside k (inr x) ∙ p.outside k (inr (omega arith))
  ];
}

pub copied_none : (bits : List ℕ) (from : ℕ) (to : List ℕ) (at : ℕ) → IsCopiedTo bits from 0 to at to
copied_none bits from to at = record { inside = λ k l. absurd (omega arith); outside = λ k o. refl }
