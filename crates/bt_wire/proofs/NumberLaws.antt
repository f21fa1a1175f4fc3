-- Numbers as four bytes, and back.
use Rattle.std.proofs.Common.{◌≡◌, ℕ, ◌+◌, ◌^◌, ◌≤◌, ◌<◌, List, ◌∷◌, ◌++◌, length, take, drop, get_or, refl, sym, ap, ◌∙◌, arith, inl, inr}
use Rattle.std.proofs.lemmas.Bool.{cases_lt}
use Rattle.std.proofs.lemmas.List.{get_or_append_left, get_or-take, get_or-drop, get_or_past, length-take, take-append-drop, drop_more}
use Rattle.std.proofs.lemmas.Nat.{be_bytes_2, from_be_bytes-to_be_bytes_2, be_bytes_4, from_be_bytes-to_be_bytes_4}
use Rattle.bt_wire.specs.Numbers.{be16, be32, number16, number32, AreBytes}

pub AreBytes-drop : (n : ℕ) (bytes : List ℕ) → AreBytes bytes → AreBytes (drop n bytes)
AreBytes-drop n bytes h i = rw get_or-drop (h (n + i))

pub AreBytes-take : (n : ℕ) (bytes : List ℕ) → AreBytes bytes → AreBytes (take n bytes)
AreBytes-take n bytes h i =
    elim (cases_lt i n) [
      | inl lt ↦ rw (get_or-take n bytes i 0 lt) (h i)
      | inr le ↦ rw (get_or_past (take n bytes) i 0 (omega (arith, length-take n bytes))) (omega arith)
    ]

-- the number is that of the first four bytes
pub number32-take : (n : ℕ) (b : List ℕ) → 4 ≤ n → number32 (take n b) ≡ number32 b
unfolding number32
number32-take n b le = rw (
  get_or-take n b 0 0 (omega arith),
  get_or-take n b 1 0 (omega arith),
  get_or-take n b 2 0 (omega arith),
  get_or-take n b 3 0 (omega arith),
) refl

pub number32-be32 : (n : ℕ) (r : List ℕ) → n < 2 ^ 32 → number32 (be32 n ++ r) ≡ n
unfolding number32
number32-be32 n r lt = from_be_bytes-to_be_bytes_4 n lt

pub be32-number32 : (b : List ℕ) → length b ≡ 4 → AreBytes b → be32 (number32 b) ≡ b
unfolding number32
be32-number32 b len fits = be_bytes_4 b _ len fits refl

pub number32-lt : (b : List ℕ) → AreBytes b → number32 b < 2 ^ 32
unfolding number32
number32-lt b fits = omega (arith, fits 0, fits 1, fits 2, fits 3)

-- four bytes, one more and the rest
pub header_parts : (w : List ℕ) → 5 ≤ length w → AreBytes w → w ≡ be32 (number32 w) ++ (get_or w 4 0 ∷ drop 5 w)
header_parts w le fits =
    let front : be32 (number32 w) ≡ take 4 w =
    ap be32 (sym (number32-take 4 w (omega arith))) ∙ be32-number32 (take 4 w) (omega (arith, length-take 4 w)) (AreBytes-take 4 w fits) in
    sym (ap (λ (x : List ℕ). x ++ (get_or w 4 0 ∷ drop 5 w)) front ∙ ap (λ (x : List ℕ). take 4 w ++ x) (sym (drop_more w 4 0 (omega arith)))
    ∙ take-append-drop 4 w)

pub number32-append : (b r : List ℕ) → 4 ≤ length b → number32 (b ++ r) ≡ number32 b
unfolding number32
number32-append b r le = rw (
  get_or_append_left b r 0 0 (omega arith),
  get_or_append_left b r 0 1 (omega arith),
  get_or_append_left b r 0 2 (omega arith),
  get_or_append_left b r 0 3 (omega arith),
) refl

pub be16-number16 : (b : List ℕ) → length b ≡ 2 → AreBytes b → be16 (number16 b) ≡ b
unfolding number16
be16-number16 b len fits = be_bytes_2 b _ len fits refl

pub number16-lt : (b : List ℕ) → AreBytes b → number16 b < 2 ^ 16
unfolding number16
number16-lt b fits = omega (arith, fits 0, fits 1)

pub number16-be16 : (n : ℕ) → n < 2 ^ 16 → number16 (be16 n) ≡ n
unfolding number16
number16-be16 n lt = from_be_bytes-to_be_bytes_2 n lt
