-- Numbers as two, four and eight bytes, and back.
use Rattle.std.proofs.Common.{◌≡◌, ℕ, zero, suc, ◌+◌, ◌-◌, ◌*◌, ◌^◌, ◌≤◌, ◌<◌, List, ◌++◌, length, take, drop, refl, sym, ap, subst, ◌∙◌, arith, inl, inr}
use Rattle.std.proofs.lemmas.Bool.{cases_lt}
use Rattle.std.proofs.lemmas.List.{get_or-take, get_or-drop, get_or_past, length-take, take-append-drop, take-take, drop-take}
use Rattle.std.proofs.lemmas.Nat.{be_bytes_2, le_bytes_2, be_bytes_4, le_bytes_4, from_be_bytes-to_be_bytes_2, from_le_bytes-to_le_bytes_2}
use Rattle.std.proofs.lemmas.Nat.{from_be_bytes-to_be_bytes_4, from_le_bytes-to_le_bytes_4}
use Rattle.std.proofs.lemmas.Nat.{be_bytes_8, le_bytes_8, from_be_bytes-to_be_bytes_8, from_le_bytes-to_le_bytes_8}
use Rattle.std.proofs.lemmas.Int.{to_z-of_z, of_z-to_z}
use Rattle.std.proofs.Math.Facts.{sfits_to_z, Fits-of_z}
use Rattle.std.specs.Prelude.{ℤ, FitsSigned}
use Rattle.std.specs.Int.{w64, cast_signed, cast_unsigned, to_le_bytes, to_be_bytes, from_le_bytes, from_be_bytes}
use Rattle.bt_pcap.specs.declared.numbers.Order.{Order}
use Rattle.bt_pcap.specs.declared.numbers.Order.TheVariants.{Little, Big}
use Rattle.bt_pcap.specs.Numbers.{u16, u32, i64, number16, number32, signed64, AreBytes}
use Rattle.bt_pcap.specs.Reading.{word}

pub AreBytes-drop : (n : ℕ) (bytes : List ℕ) → AreBytes bytes → AreBytes (drop n bytes)
AreBytes-drop n bytes h i = rw get_or-drop (h (n + i))

pub AreBytes-take : (n : ℕ) (bytes : List ℕ) → AreBytes bytes → AreBytes (take n bytes)
AreBytes-take n bytes h i =
    elim (cases_lt i n) [
      | inl lt ↦ rw (get_or-take n bytes i 0 lt) (h i)
      | inr le ↦ rw (get_or_past (take n bytes) i 0 (omega (arith, length-take n bytes))) (omega arith)
    ]

-- ---- four bytes

pub number32-take : (order : Order) (n : ℕ) (b : List ℕ) → 4 ≤ n → number32 order (take n b) ≡ number32 order b
unfolding number32
number32-take Little n b le = rw (
  get_or-take n b 0 0 (omega arith),
  get_or-take n b 1 0 (omega arith),
  get_or-take n b 2 0
      (omega arith),
  get_or-take n b 3 0 (omega arith),
) refl
number32-take Big n b le = rw (
  get_or-take n b 0 0 (omega arith),
  get_or-take n b 1 0 (omega arith),
  get_or-take n b 2 0
      (omega arith),
  get_or-take n b 3 0 (omega arith),
) refl

pub number32-lt : (order : Order) (b : List ℕ) → AreBytes b → number32 order b < 2 ^ 32
unfolding number32
number32-lt Little b fits = omega (arith, fits 0, fits 1, fits 2, fits 3)
number32-lt Big b fits = omega (arith, fits 0, fits 1, fits 2, fits 3)

pub number32-u32 : (order : Order) (n : ℕ) (r : List ℕ) → n < 2 ^ 32 → number32 order (u32 order n ++ r) ≡ n
unfolding number32
number32-u32 Little n r lt = from_le_bytes-to_le_bytes_4 n lt
number32-u32 Big n r lt = from_be_bytes-to_be_bytes_4 n lt

pub drop-u32 : (order : Order) (n : ℕ) (r : List ℕ) → drop 4 (u32 order n ++ r) ≡ r
drop-u32 Little n r = refl
drop-u32 Big n r = refl

pub length-u32 : (order : Order) (n : ℕ) (r : List ℕ) → length (u32 order n ++ r) ≡ 4 + length r
length-u32 Little n r = omega arith
length-u32 Big n r = omega arith

u32-number32 : (order : Order) (b : List ℕ) → length b ≡ 4 → AreBytes b → u32 order (number32 order b) ≡ b
unfolding number32
u32-number32 Little b len fits = le_bytes_4 b _ len fits refl
u32-number32 Big b len fits = be_bytes_4 b _ len fits refl

pub front32 : (order : Order) (b : List ℕ) → 4 ≤ length b → AreBytes b → u32 order (number32 order b) ≡ take 4 b
front32 order b le fits =
    ap (u32 order) (sym (number32-take order 4 b (omega arith))) ∙ u32-number32 order (take 4 b) (omega (arith, length-take 4 b)) (AreBytes-take 4 b fits)

-- bytes begin with their first number
pub split32 : (order : Order) (b : List ℕ) → 4 ≤ length b → AreBytes b → b ≡ u32 order (number32 order b) ++ drop 4 b
split32 order b le fits = sym (ap (λ (x : List ℕ). x ++ drop 4 b) (front32 order b le fits) ∙ take-append-drop 4 b)

-- ---- two bytes

pub number16-take : (order : Order) (n : ℕ) (b : List ℕ) → 2 ≤ n → number16 order (take n b) ≡ number16 order b
unfolding number16
number16-take Little n b le = rw (get_or-take n b 0 0 (omega arith), get_or-take n b 1 0 (omega arith)) refl
number16-take Big n b le = rw (get_or-take n b 0 0 (omega arith), get_or-take n b 1 0 (omega arith)) refl

pub number16-lt : (order : Order) (b : List ℕ) → AreBytes b → number16 order b < 2 ^ 16
unfolding number16
number16-lt Little b fits = omega (arith, fits 0, fits 1)
number16-lt Big b fits = omega (arith, fits 0, fits 1)

pub number16-u16 : (order : Order) (n : ℕ) (r : List ℕ) → n < 2 ^ 16 → number16 order (u16 order n ++ r) ≡ n
unfolding number16
number16-u16 Little n r lt = from_le_bytes-to_le_bytes_2 n lt
number16-u16 Big n r lt = from_be_bytes-to_be_bytes_2 n lt

pub drop-u16 : (order : Order) (n : ℕ) (r : List ℕ) → drop 2 (u16 order n ++ r) ≡ r
drop-u16 Little n r = refl
drop-u16 Big n r = refl

pub length-u16 : (order : Order) (n : ℕ) (r : List ℕ) → length (u16 order n ++ r) ≡ 2 + length r
length-u16 Little n r = omega arith
length-u16 Big n r = omega arith

u16-number16 : (order : Order) (b : List ℕ) → length b ≡ 2 → AreBytes b → u16 order (number16 order b) ≡ b
unfolding number16
u16-number16 Little b len fits = le_bytes_2 b _ len fits refl
u16-number16 Big b len fits = be_bytes_2 b _ len fits refl

pub split16 : (order : Order) (b : List ℕ) → 2 ≤ length b → AreBytes b → b ≡ u16 order (number16 order b) ++ drop 2 b
split16 order b le fits =
    let front : u16 order (number16 order b) ≡ take 2 b =
    ap (u16 order) (sym (number16-take order 2 b (omega arith))) ∙ u16-number16 order (take 2 b) (omega (arith, length-take 2 b)) (AreBytes-take 2 b fits) in
    sym (ap (λ (x : List ℕ). x ++ drop 2 b) front ∙ take-append-drop 2 b)

-- ---- eight bytes, signed

from_le-lt : (b : List ℕ) → AreBytes b → from_le_bytes w64 b < 2 ^ 64
from_le-lt b fits = omega (arith, fits 0, fits 1, fits 2, fits 3, fits 4, fits 5, fits 6, fits 7)

from_be-lt : (b : List ℕ) → AreBytes b → from_be_bytes w64 b < 2 ^ 64
from_be-lt b fits = omega (arith, fits 0, fits 1, fits 2, fits 3, fits 4, fits 5, fits 6, fits 7)

of_z-lt : (z : ℤ) → FitsSigned w64 z → cast_unsigned w64 z < 2 ^ 64
of_z-lt z fits = (Fits-of_z fits).fits

pub signed64-i64 : (order : Order) (z : ℤ) → FitsSigned w64 z → signed64 order (i64 order z) ≡ z
unfolding signed64
signed64-i64 Little z fits = ap (cast_signed w64) (from_le_bytes-to_le_bytes_8 (cast_unsigned w64 z) (of_z-lt z fits)) ∙ to_z-of_z w64 z fits
signed64-i64 Big z fits = ap (cast_signed w64) (from_be_bytes-to_be_bytes_8 (cast_unsigned w64 z) (of_z-lt z fits)) ∙ to_z-of_z w64 z fits

pub i64-signed64 : (order : Order) (b : List ℕ) → length b ≡ 8 → AreBytes b → i64 order (signed64 order b) ≡ b
unfolding signed64
i64-signed64 Little b len fits =
    ap (to_le_bytes w64) (of_z-to_z w64 (from_le_bytes w64 b) (from_le-lt b fits)) ∙ le_bytes_8 b _ len fits refl
i64-signed64 Big b len fits =
    ap (to_be_bytes w64) (of_z-to_z w64 (from_be_bytes w64 b) (from_be-lt b fits)) ∙ be_bytes_8 b _ len fits refl

pub signed64-fits : (order : Order) (b : List ℕ) → AreBytes b → FitsSigned w64 (signed64 order b)
unfolding signed64
signed64-fits Little b fits = sfits_to_z record { fits = from_le-lt b fits }
signed64-fits Big b fits = sfits_to_z record { fits = from_be-lt b fits }

-- ---- fields of a front

pub drop-front : {X : Type 0} (k n : ℕ) (xs : List X) → k ≤ n → drop k (take n xs) ≡ take (n - k) (drop k xs)
drop-front k n xs le = let e : n ≡ k + (n - k) = omega arith in subst (λ (m : ℕ). drop k (take m xs) ≡ take (n - k) (drop k xs)) (sym e)
    (drop-take k (n - k) xs)

pub word-take : (order : Order) (k n : ℕ) (b : List ℕ) → 4 * k + 4 ≤ n → word order k (take n b) ≡ word order k b
word-take order zero n b le = number32-take order n b (omega arith)
word-take order (suc k) n b le = ap (word order k) (drop-front 4 n b (omega arith)) ∙ word-take order k (n - 4) (drop 4 b) (omega arith)

pub word-same : (order : Order) (k n : ℕ) (a b : List ℕ) → take n a ≡ take n b → 4 * k + 4 ≤ n → word order k a ≡ word order k b
word-same order k n a b e le = sym (word-take order k n a le) ∙ (ap (word order k) e ∙ word-take order k n b le)

pub take-less : {X : Type 0} (m n : ℕ) (a b : List X) → m ≤ n → take n a ≡ take n b → take m a ≡ take m b
take-less m n a b le e = sym (take-take m n a le) ∙ (ap (take m) e ∙ take-take m n b le)
