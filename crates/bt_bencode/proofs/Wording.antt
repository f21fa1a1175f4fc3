-- Keys are compared as the numbers of some of their bytes, where these differ.
use Rattle.std.proofs.Common.{◌≡◌, ◌≢◌, ◌-◌, ◌⊎◌, inl, inr, ℕ, ◌+◌, ◌*◌, ◌<◌, ◌≤◌, List, [], ◌∷◌, ◌++◌, length, take, drop, slice_index, get_or, nat_lt, true, false, zero, suc, min, refl, sym, ap, subst, ◌∙◌, arith}
use Rattle.std.specs.Prelude.{◌==◌}
use Rattle.std.proofs.lemmas.Bool.{cases_lt, lt-ltb, le-ltb, eq-eqb, ne_eqb}
use Rattle.std.proofs.Common.{length-drop}
use Rattle.std.proofs.Math.Seq.{take-add}
use Rattle.std.proofs.lemmas.List.{length-take-le, take-append-drop, take-take}
use Rattle.std.specs.Int.{w32, w64, from_be_bytes}
use Rattle.std.specs.Cmp.Lexicographic.{slice_cmp}
use Rattle.std.specs.Ordering.{nat_cmp, is_lt}
use Rattle.std.specs.declared.cmp.Ordering.{Ordering}
use Rattle.std.specs.declared.cmp.Ordering.TheVariants.{Less, Greater}
use Rattle.bt_bencode.specs.Words.{joined, AreBytes, IsWord}

abbrev Order : List ℕ → List ℕ → Ordering
Order xs ys = slice_cmp nat_cmp xs ys

-- a first element that is less decides
head_less : (x y : ℕ) (xs ys : List ℕ) → x < y → Order (x ∷ xs) (y ∷ ys) ≡ Less
head_less x y xs ys h = let t : nat_lt x y ≡ true = lt-ltb x y h in rw t refl

head_greater : (x y : ℕ) (xs ys : List ℕ) → y < x → Order (x ∷ xs) (y ∷ ys) ≡ Greater
head_greater x y xs ys h =
    let t : nat_lt x y ≡ false = le-ltb x y (omega arith) in
    let e : (x == y) ≡ false = ne_eqb x y (λ same. absurd (omega (arith, same, h))) in
    rw (t, e) refl

-- equal ones leave it to the others
head_same : (x : ℕ) (xs ys : List ℕ) → Order (x ∷ xs) (x ∷ ys) ≡ Order xs ys
head_same x xs ys =
    let t : nat_lt x x ≡ false = le-ltb x x (omega arith) in
    let e : (x == x) ≡ true = eq-eqb x x refl in
    rw (t, e) refl

-- the numbers of more and more bytes: the first ones decide, or they are equal and the others do
abbrev Less-by : ℕ → ℕ → List ℕ → List ℕ → Type 0
Less-by m n xs ys = (m < n) ⊎ ((m ≡ n) × (Order xs ys ≡ Less) × (Order ys xs ≡ Greater))

one_more : (m n x y : ℕ) (xs ys : List ℕ) → x < 256 → y < 256 → Less-by (m * 256 + x) (n * 256 + y) xs ys → Less-by m n (x ∷ xs) (y ∷ ys)
one_more m n x y xs ys hx hy (inl l) = by_first (cases_lt m n)
  where
    by_first : (m < n) ⊎ (n ≤ m) → Less-by m n (x ∷ xs) (y ∷ ys)
    by_first (inl h) = inl h
    by_first (inr h) =
        let e : m ≡ n = omega (arith, l, h, hx, hy) in
        let f : x < y = omega (arith, l, e) in
        inr (e, head_less x y xs ys f, head_greater y x ys xs f)
one_more m n x y xs ys hx hy (inr p) =
    let e : m ≡ n = omega (arith, p.0, hx, hy) in
    let f : x ≡ y = omega (arith, p.0, e) in
    inr (e, subst (λ z. Order (x ∷ xs) (z ∷ ys) ≡ Less) f (head_same x xs ys ∙ p.1), subst (λ z. Order (z ∷ ys) (x ∷ xs) ≡ Greater) f (head_same x ys xs ∙ p.2))

all_less : (m n : ℕ) (xs ys r s : List ℕ) → length xs ≡ length ys → AreBytes xs → AreBytes ys → joined m xs < joined n ys
    → Less-by m n (xs ++ r) (ys ++ s)
all_less m n [] [] r s e a b l = inl l
all_less m n [] (y ∷ ys) r s e a b l = absurd (omega (arith, e))
all_less m n (x ∷ xs) [] r s e a b l = absurd (omega (arith, e))
all_less m n (x ∷ xs) (y ∷ ys) r s e a b l =
    one_more m n x y (xs ++ r) (ys ++ s) a.0 b.0
    (all_less (m * 256 + x) (n * 256 + y) xs ys r s (omega (arith, e)) a.1 b.1 l)

none_less : {P : Type 0} → (0 < 0) ⊎ P → P
none_less (inl h) = absurd (omega (arith, h))
none_less (inr p) = p

words_less : (k : ℕ) (xs ys : List ℕ) (m n : ℕ) → IsWord k xs m → IsWord k ys n → k ≤ length xs → k ≤ length ys → m < n → (Order xs ys ≡ Less)
    × (Order ys xs ≡ Greater)
words_less k xs ys m n v w lx ly l =
    let e : length (take k xs) ≡ length (take k ys) = length-take-le k xs lx ∙ sym (length-take-le k ys ly) in
    let j : joined 0 (take k xs) < joined 0 (take k ys) = omega (arith, v.value, w.value, l) in
    let p = none_less (all_less 0 0 (take k xs) (take k ys) (drop k xs) (drop k ys) e v.fit w.fit j) in
    let x = take-append-drop k xs in
    let y = take-append-drop k ys in (
      subst (λ z. Order z ys ≡ Less) x (subst (λ z. Order (take k xs ++ drop k xs) z ≡ Less) y p.1),
      subst (λ z. Order z xs ≡ Greater) y (subst (λ z. Order (take k ys ++ drop k ys) z ≡ Greater) x p.2),
    )

other : (a b : ℕ) → (a ≢ b) → b ≤ a → b < a
other a b f h = by (cases_lt b a)
  where
    by : (b < a) ⊎ (a ≤ b) → b < a
    by (inl l) = l
    by (inr l) = absurd (f (omega (arith, l, h)))

-- where the numbers of the first k bytes differ, they decide
pub words_decide : (k : ℕ) (xs ys : List ℕ) (m n : ℕ) → IsWord k xs m → IsWord k ys n → k ≤ length xs → k ≤ length ys → (m ≢ n)
    → nat_lt m n ≡ is_lt (slice_cmp nat_cmp xs ys)
words_decide k xs ys m n v w lx ly d = by_order (cases_lt m n)
  where
    by_order : (m < n) ⊎ (n ≤ m) → nat_lt m n ≡ is_lt (slice_cmp nat_cmp xs ys)
    by_order (inl h) = lt-ltb m n h ∙ sym (ap is_lt ((words_less k xs ys m n v w lx ly h).0))
    by_order (inr h) =
        let g : n < m = other m n d h in
        le-ltb m n h ∙ sym (ap is_lt ((words_less k ys xs n m w v ly lx g).1))

-- equal numbers are of equal bytes
all_same : (m n : ℕ) (xs ys : List ℕ) → length xs ≡ length ys → AreBytes xs → AreBytes ys → joined m xs ≡ joined n ys → (m ≡ n) × (xs ≡ ys)
all_same m n [] [] e a b j = (j, refl)
all_same m n [] (y ∷ ys) e a b j = absurd (omega (arith, e))
all_same m n (x ∷ xs) [] e a b j = absurd (omega (arith, e))
all_same m n (x ∷ xs) (y ∷ ys) e a b j =
    let h = all_same (m * 256 + x) (n * 256 + y) xs ys (omega (arith, e)) a.1 b.1 j in
    let front : m ≡ n = omega (arith, h.0, a.0, b.0) in
    let head : x ≡ y = omega (arith, h.0, front) in
    let tail = h.1 in
    (front, cc)

pub same_front : (k : ℕ) (xs ys : List ℕ) (m n : ℕ) → IsWord k xs m → IsWord k ys n → k ≤ length xs → k ≤ length ys → m ≡ n → take k xs ≡ take k ys
same_front k xs ys m n v w lx ly is =
    (all_same 0 0 (take k xs) (take k ys) (length-take-le k xs lx ∙ sym (length-take-le k ys ly)) v.fit w.fit (sym v.value ∙ is ∙ w.value)).1

-- after equal bytes the others decide
ahead : (k : ℕ) (xs ys : List ℕ) → take k xs ≡ take k ys → Order xs ys ≡ Order (drop k xs) (drop k ys)
ahead zero xs ys e = refl
ahead (suc k) [] [] e = refl
ahead (suc k) [] (y ∷ ys) e = cc
ahead (suc k) (x ∷ xs) [] e = cc
ahead (suc k) (x ∷ xs) (y ∷ ys) e =
    let head : x ≡ y = cc in
    let tail : take k xs ≡ take k ys = cc in
    subst (λ z. Order (x ∷ xs) (z ∷ ys) ≡ Order (drop k xs) (drop k ys)) head (head_same x xs ys ∙ ahead k xs ys tail)

-- and if there are none in one of the two, the lengths
both_more : (m n : ℕ) → nat_lt m n ≡ nat_lt (suc m) (suc n)
both_more m n = by (cases_lt m n)
  where
    by : (m < n) ⊎ (n ≤ m) → nat_lt m n ≡ nat_lt (suc m) (suc n)
    by (inl h) = lt-ltb m n h ∙ sym (lt-ltb (suc m) (suc n) (omega arith))
    by (inr h) = le-ltb m n h ∙ sym (le-ltb (suc m) (suc n) (omega arith))

pub lengths_decide : (k : ℕ) (xs ys : List ℕ) → take k xs ≡ take k ys → min (length xs) (length ys) ≤ k
    → nat_lt (length xs) (length ys) ≡ is_lt (slice_cmp nat_cmp xs ys)
lengths_decide k [] [] e h = le-ltb 0 0 (omega arith)
lengths_decide k [] (y ∷ ys) e h = lt-ltb 0 (length (y ∷ ys)) (omega arith)
lengths_decide k (x ∷ xs) [] e h = le-ltb (length (x ∷ xs)) 0 (omega arith)
lengths_decide zero (x ∷ xs) (y ∷ ys) e h = absurd (omega (arith, h))
lengths_decide (suc k) (x ∷ xs) (y ∷ ys) e h =
    let head : x ≡ y = cc in
    let tail : take k xs ≡ take k ys = cc in
    let more : nat_lt (length xs) (length ys) ≡ is_lt (Order xs ys) = lengths_decide k xs ys tail (omega (arith, h)) in
    let one : nat_lt (length (x ∷ xs)) (length (y ∷ ys)) ≡ is_lt (Order xs ys) = sym (both_more (length xs) (length ys)) ∙ more in
    let same : Order xs ys ≡ Order (x ∷ xs) (y ∷ ys) = subst (λ z. Order xs ys ≡ Order (x ∷ xs) (z ∷ ys)) head (sym (head_same x xs ys)) in
    one ∙ ap is_lt same

-- so do the last k bytes of the shorter key, if the first k are equal and both are all of it
module _ (k : ℕ) (xs ys : List ℕ) (few : min (length xs) (length ys) ≤ k + k) (enough : k ≤ min (length xs) (length ys)) (front : take k xs ≡ take k ys)
    (end : ℕ) (is : end ≡ min (length xs) (length ys) - k) where
  fewer : take end xs ≡ take end ys
  fewer =
      let le : end ≤ k = omega (arith, few, is) in
      sym (take-take end k xs le) ∙ ap (λ z. take end z) front ∙ take-take end k ys le

  pub ends_decide : (m n : ℕ) → IsWord k (drop end xs) m → IsWord k (drop end ys) n → (m ≢ n) → nat_lt m n ≡ is_lt (slice_cmp nat_cmp xs ys)
  ends_decide m n v w d =
      words_decide k (drop end xs) (drop end ys) m n v w (omega (arith, length-drop end xs, is, enough)) (omega (arith, length-drop end ys, is, enough)) d
      ∙ sym (ap is_lt (ahead end xs ys fewer))

  pub ends_same : (m n : ℕ) → IsWord k (drop end xs) m → IsWord k (drop end ys) n → m ≡ n → nat_lt (length xs) (length ys) ≡ is_lt (slice_cmp nat_cmp xs ys)
  ends_same m n v w same =
      let back = same_front k (drop end xs) (drop end ys) m n v w (omega (arith, length-drop end xs, is, enough))
      (omega (arith, length-drop end ys, is, enough)) same in
      let whole : take (end + k) xs ≡ take (end + k) ys = take-add end k xs ∙ ap (λ z. z ++ take k (drop end xs)) fewer
      ∙ ap (λ z. take end ys ++ z) back ∙ sym (take-add end k ys) in
      lengths_decide (end + k) xs ys whole (omega (arith, is))

-- the first bytes that differ decide
pub byte_decides : (at : ℕ) (xs ys : List ℕ) → take at xs ≡ take at ys → at < length xs → at < length ys → (slice_index xs at ≢ slice_index ys at)
    → nat_lt (slice_index xs at) (slice_index ys at) ≡ is_lt (slice_cmp nat_cmp xs ys)
byte_decides at [] ys e lx ly d = absurd (omega (arith, lx))
byte_decides at (x ∷ xs) [] e lx ly d = absurd (omega (arith, ly))
byte_decides zero (x ∷ xs) (y ∷ ys) e lx ly d = by (cases_lt x y)
  where
    by : (x < y) ⊎ (y ≤ x) → nat_lt x y ≡ is_lt (Order (x ∷ xs) (y ∷ ys))
    by (inl h) = lt-ltb x y h ∙ sym (ap is_lt (head_less x y xs ys h))
    by (inr h) = le-ltb x y h ∙ sym (ap is_lt (head_greater x y xs ys (other x y d h)))
byte_decides (suc at) (x ∷ xs) (y ∷ ys) e lx ly d =
    let head : x ≡ y = cc in
    let tail : take at xs ≡ take at ys = cc in
    let more : nat_lt (slice_index xs at) (slice_index ys at) ≡ is_lt (Order xs ys) = byte_decides at xs ys tail (omega (arith, lx)) (omega (arith, ly)) d in
    let same : Order xs ys ≡ Order (x ∷ xs) (y ∷ ys) = subst (λ z. Order xs ys ≡ Order (x ∷ xs) (z ∷ ys)) head (sym (head_same x xs ys)) in
    more ∙ ap is_lt same

-- the first eight of at least eight
pub first_eight : (xs : List ℕ) → 8 ≤ length xs → take 8 xs
    ≡ slice_index xs 0 ∷ slice_index xs 1 ∷ slice_index xs 2 ∷ slice_index xs 3 ∷ slice_index xs 4 ∷ slice_index xs 5 ∷ slice_index xs 6 ∷ slice_index xs 7 ∷ []
first_eight (a ∷ b ∷ c ∷ d ∷ e ∷ f ∷ g ∷ h ∷ r) l = refl
first_eight (a ∷ b ∷ c ∷ d ∷ e ∷ f ∷ g ∷ []) l = absurd (omega (arith, l))
first_eight (a ∷ b ∷ c ∷ d ∷ e ∷ f ∷ []) l = absurd (omega (arith, l))
first_eight (a ∷ b ∷ c ∷ d ∷ e ∷ []) l = absurd (omega (arith, l))
first_eight (a ∷ b ∷ c ∷ d ∷ []) l = absurd (omega (arith, l))
first_eight (a ∷ b ∷ c ∷ []) l = absurd (omega (arith, l))
first_eight (a ∷ b ∷ []) l = absurd (omega (arith, l))
first_eight (a ∷ []) l = absurd (omega (arith, l))
first_eight [] l = absurd (omega (arith, l))

same_number : (a b c d e f g h : ℕ) → from_be_bytes w64 (a ∷ b ∷ c ∷ d ∷ e ∷ f ∷ g ∷ h ∷ []) ≡ joined 0 (a ∷ b ∷ c ∷ d ∷ e ∷ f ∷ g ∷ h ∷ [])
same_number a b c d e f g h = omega arith

-- eight bytes as a number
pub is_word : (xs : List ℕ) (n : ℕ) → 8 ≤ length xs → slice_index xs 0 < 256 → slice_index xs 1 < 256 → slice_index xs 2 < 256 → slice_index xs 3 < 256
    → slice_index xs 4 < 256 → slice_index xs 5 < 256 → slice_index xs 6 < 256 → slice_index xs 7 < 256
    → n ≡ from_be_bytes w64 (slice_index xs 0 ∷ slice_index xs 1 ∷ slice_index xs 2 ∷ slice_index xs 3 ∷ slice_index xs 4 ∷ slice_index xs 5 ∷ slice_index xs 6 ∷ slice_index xs 7 ∷ [])
    → IsWord 8 xs n
is_word xs n l a b c d e f g h is =
    let eight = first_eight xs l in
    record {
      value = is ∙ same_number _ _ _ _ _ _ _ _ ∙ ap (joined 0) (sym eight);
      fit = subst AreBytes (sym eight) (a, (b, (c, (d, (e, (f, (g, (h, tt))))))));
    }

-- the first four of at least four
first_four : (xs : List ℕ) → 4 ≤ length xs → take 4 xs ≡ slice_index xs 0 ∷ slice_index xs 1 ∷ slice_index xs 2 ∷ slice_index xs 3 ∷ []
first_four (a ∷ b ∷ c ∷ d ∷ r) l = refl
first_four (a ∷ b ∷ c ∷ []) l = absurd (omega (arith, l))
first_four (a ∷ b ∷ []) l = absurd (omega (arith, l))
first_four (a ∷ []) l = absurd (omega (arith, l))
first_four [] l = absurd (omega (arith, l))

same_half : (a b c d : ℕ) → from_be_bytes w32 (a ∷ b ∷ c ∷ d ∷ []) ≡ joined 0 (a ∷ b ∷ c ∷ d ∷ [])
same_half a b c d = omega arith

-- four bytes as a number
pub is_half : (xs : List ℕ) (n : ℕ) → 4 ≤ length xs → slice_index xs 0 < 256 → slice_index xs 1 < 256 → slice_index xs 2 < 256 → slice_index xs 3 < 256
    → n ≡ from_be_bytes w32 (slice_index xs 0 ∷ slice_index xs 1 ∷ slice_index xs 2 ∷ slice_index xs 3 ∷ []) → IsWord 4 xs n
is_half xs n l a b c d is =
    let four = first_four xs l in
    record {
      value = is ∙ same_half _ _ _ _ ∙ ap (joined 0) (sym four);
      fit = subst AreBytes (sym four) (a, (b, (c, (d, tt))));
    }
