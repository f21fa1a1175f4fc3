-- The order of bytes is that of the numbers that they are, and ids are told apart by their distances to another.
use Rattle.std.proofs.Common.{◌≡◌, ◌⊎◌, inl, inr, ℕ, zero, suc, ◌+◌, ◌*◌, ◌^◌, ◌<◌, ◌≤◌, List, [], ◌∷◌, length, get_or, nat_lt, true, false, refl, sym, ap, ◌∙◌, arith}
use Rattle.std.specs.Prelude.{◌==◌, fold, bit_xor}
use Rattle.std.proofs.lemmas.Bool.{cases_lt, lt-ltb, le-ltb, eq-eqb, ne_eqb}
use Rattle.std.specs.Cmp.Lexicographic.{slice_cmp}
use Rattle.std.specs.Int.Bits.{xor_self, xor_zero_r}
use Rattle.std.proofs.lemmas.Grind.{common_steps, same_number_lists}
use Rattle.std.proofs.lemmas.Nat.{xor_of_8}
use Rattle.std.proofs.Math.ListN.{set}
use Rattle.std.specs.Ordering.{nat_cmp, ordering_then}
use Rattle.std.specs.declared.cmp.Ordering.{Ordering}
use Rattle.std.specs.declared.cmp.Ordering.TheVariants.{Less, Equal, Greater}
use lib.Bits.{xor_assoc}
use Rattle.bt_dht.specs.Distances.{distance_of, number_of, xor_of}

less : (x y : ℕ) → x < y → nat_cmp x y ≡ Less
less x y h = let t : nat_lt x y ≡ true = lt-ltb x y h in rw t refl

greater : (x y : ℕ) → y < x → nat_cmp x y ≡ Greater
greater x y h =
    let t : nat_lt x y ≡ false = le-ltb x y (omega arith) in
    let e : (x == y) ≡ false = ne_eqb x y (λ same. absurd (omega (arith, same, h))) in
    rw (t, e) refl

pub equal : (x y : ℕ) → x ≡ y → nat_cmp x y ≡ Equal
equal x y h =
    let t : nat_lt x y ≡ false = le-ltb x y (omega arith) in
    let e : (x == y) ≡ true = eq-eqb x y h in
    rw (t, e) refl

three_ways : (x y : ℕ) → (x < y) ⊎ ((x ≡ y) ⊎ (y < x))
three_ways x y = first (cases_lt x y)
  where
    second : y ≤ x → (y < x) ⊎ (x ≤ y) → (x < y) ⊎ ((x ≡ y) ⊎ (y < x))
    second h (inl l) = inr (inr l)
    second h (inr l) = inr (inl (omega (arith, h, l)))

    first : (x < y) ⊎ (y ≤ x) → (x < y) ⊎ ((x ≡ y) ⊎ (y < x))
    first (inl l) = inl l
    first (inr h) = second h (cases_lt y x)

then_equal : (a : Ordering) → a ≡ ordering_then a Equal
then_equal Less = refl
then_equal Equal = refl
then_equal Greater = refl

then_assoc : (a b c : Ordering) → ordering_then (ordering_then a b) c ≡ ordering_then a (ordering_then b c)
then_assoc Less b c = refl
then_assoc Equal b c = refl
then_assoc Greater b c = refl

-- one more byte
one_more : (m n x y : ℕ) → x < 256 → y < 256 → nat_cmp (m * 256 + x) (n * 256 + y) ≡ ordering_then (nat_cmp m n) (nat_cmp x y)
one_more m n x y hx hy = by_number (three_ways m n)
  where
    by_byte : m ≡ n → (x < y) ⊎ ((x ≡ y) ⊎ (y < x)) → nat_cmp (m * 256 + x) (n * 256 + y) ≡ nat_cmp x y
    by_byte e (inl l) = less (m * 256 + x) (n * 256 + y) (omega (arith, e, l)) ∙ sym (less x y l)
    by_byte e (inr (inl s)) = equal (m * 256 + x) (n * 256 + y) (omega (arith, e, s)) ∙ sym (equal x y s)
    by_byte e (inr (inr g)) = greater (m * 256 + x) (n * 256 + y) (omega (arith, e, g)) ∙ sym (greater x y g)

    by_number : (m < n) ⊎ ((m ≡ n) ⊎ (n < m)) → nat_cmp (m * 256 + x) (n * 256 + y) ≡ ordering_then (nat_cmp m n) (nat_cmp x y)
    by_number (inl l) = less (m * 256 + x) (n * 256 + y) (omega (arith, l, hx, hy)) ∙ sym (ap (λ o. ordering_then o (nat_cmp x y)) (less m n l))
    by_number (inr (inl e)) = by_byte e (three_ways x y) ∙ sym (ap (λ o. ordering_then o (nat_cmp x y)) (equal m n e))
    by_number (inr (inr g)) = greater (m * 256 + x) (n * 256 + y) (omega (arith, g, hx, hy)) ∙ sym (ap (λ o. ordering_then o (nat_cmp x y)) (greater m n g))

abbrev further : ℕ → List ℕ → ℕ
further m xs = fold (λ n b. n * 256 + b) m xs

after : (m n : ℕ) (xs ys : List ℕ) → length xs ≡ length ys → ((k : ℕ) → get_or xs k 0 < 2 ^ 8) → ((k : ℕ) → get_or ys k 0 < 2 ^ 8)
    → nat_cmp (further m xs) (further n ys) ≡ ordering_then (nat_cmp m n) (slice_cmp nat_cmp xs ys)
after m n [] [] e hx hy = then_equal (nat_cmp m n)
after m n [] (y ∷ ys) e hx hy = absurd (omega (arith, e))
after m n (x ∷ xs) [] e hx hy = absurd (omega (arith, e))
after m n (x ∷ xs) (y ∷ ys) e hx hy =
    after (m * 256 + x) (n * 256 + y) xs ys (omega (arith, e)) (λ k. hx (suc k)) (λ k. hy (suc k))
    ∙ ap (λ o. ordering_then o (slice_cmp nat_cmp xs ys)) (one_more m n x y (hx 0) (hy 0))
    ∙ then_assoc (nat_cmp m n) (nat_cmp x y) (slice_cmp nat_cmp xs ys)

by_numbers : (xs ys : List ℕ) → length xs ≡ length ys → ((k : ℕ) → get_or xs k 0 < 2 ^ 8) → ((k : ℕ) → get_or ys k 0 < 2 ^ 8)
    → slice_cmp nat_cmp xs ys ≡ nat_cmp (number_of xs) (number_of ys)
by_numbers xs ys e hx hy = sym (after 0 0 xs ys e hx hy)

-- equal bytes, and no others, are told to be equal
equal_bytes : (xs ys : List ℕ) → slice_cmp nat_cmp xs ys ≡ Equal → xs ≡ ys
equal_bytes [] [] h = refl
equal_bytes [] (y ∷ ys) h = absurd (cc)
equal_bytes (x ∷ xs) [] h = absurd (cc)
equal_bytes (x ∷ xs) (y ∷ ys) h = by (equal_bytes xs ys) (three_ways x y)
  where
    by : (slice_cmp nat_cmp xs ys ≡ Equal → xs ≡ ys) → (x < y) ⊎ ((x ≡ y) ⊎ (y < x)) → x ∷ xs ≡ y ∷ ys
    by others (inl l) =
        let e : ◌≡◌ {A = Ordering} Less Equal = sym (ap (λ o. ordering_then o (slice_cmp nat_cmp xs ys)) (less x y l)) ∙ h in
        absurd (cc)
    by others (inr (inl s)) =
        let e : slice_cmp nat_cmp xs ys ≡ Equal = sym (ap (λ o. ordering_then o (slice_cmp nat_cmp xs ys)) (equal x y s)) ∙ h in
        let tail = others e in
        cc
    by others (inr (inr g)) =
        let e : ◌≡◌ {A = Ordering} Greater Equal = sym (ap (λ o. ordering_then o (slice_cmp nat_cmp xs ys)) (greater x y g)) ∙ h in
        absurd (cc)

order_self : (xs : List ℕ) → slice_cmp nat_cmp xs xs ≡ Equal
order_self [] = refl
order_self (x ∷ xs) = ap (λ o. ordering_then o (slice_cmp nat_cmp xs xs)) (equal x x refl) ∙ order_self xs

-- ---- XOR

pub length-xor_of : (xs ys : List ℕ) → length xs ≡ length ys → length (xor_of xs ys) ≡ length xs
length-xor_of [] ys e = refl
length-xor_of (x ∷ xs) [] e = absurd (omega (arith, e))
length-xor_of (x ∷ xs) (y ∷ ys) e = omega (arith, length-xor_of xs ys (omega (arith, e)))

pub get_or-xor_of : (xs ys : List ℕ) (k : ℕ) → length xs ≡ length ys → k < length xs → get_or (xor_of xs ys) k 0 ≡ bit_xor (get_or xs k 0) (get_or ys k 0)
get_or-xor_of [] ys k e h = absurd (omega (arith, h))
get_or-xor_of (x ∷ xs) [] k e h = absurd (omega (arith, e))
get_or-xor_of (x ∷ xs) (y ∷ ys) zero e h = refl
get_or-xor_of (x ∷ xs) (y ∷ ys) (suc k) e h = get_or-xor_of xs ys k (omega (arith, e)) (omega (arith, h))

xor_back : (x z : ℕ) → bit_xor (bit_xor x z) z ≡ x
xor_back x z = xor_assoc x z z ∙ ap (bit_xor x) (xor_self z) ∙ xor_zero_r x

xor_cancel : (x y z : ℕ) → bit_xor x z ≡ bit_xor y z → x ≡ y
xor_cancel x y z e = sym (xor_back x z) ∙ ap (λ w. bit_xor w z) e ∙ xor_back y z

pub same_ids : (xs ys zs : List ℕ) → length xs ≡ length zs → length ys ≡ length zs → xor_of xs zs ≡ xor_of ys zs → xs ≡ ys
same_ids [] [] zs a b e = refl
same_ids [] (y ∷ ys) zs a b e = absurd (omega (arith, a, b))
same_ids (x ∷ xs) [] zs a b e = absurd (omega (arith, a, b))
same_ids (x ∷ xs) (y ∷ ys) [] a b e = absurd (omega (arith, a))
same_ids (x ∷ xs) (y ∷ ys) (z ∷ zs) a b e =
    let first : bit_xor x z ≡ bit_xor y z = cc in
    let others : xor_of xs zs ≡ xor_of ys zs = cc in
    let head = xor_cancel x y z first in
    let tail = same_ids xs ys zs (omega (arith, a)) (omega (arith, b)) others in
    cc

nothing_small : (k : ℕ) → get_or [] k 0 < 2 ^ 8
nothing_small zero = omega arith
nothing_small (suc k) = omega arith

bytes_xor : (xs ys : List ℕ) → ((k : ℕ) → get_or xs k 0 < 2 ^ 8) → ((k : ℕ) → get_or ys k 0 < 2 ^ 8) → (k : ℕ) → get_or (xor_of xs ys) k 0 < 2 ^ 8
bytes_xor [] ys hx hy k = nothing_small k
bytes_xor (x ∷ xs) [] hx hy k = nothing_small k
bytes_xor (x ∷ xs) (y ∷ ys) hx hy zero = xor_of_8 x y (hx 0) (hy 0)
bytes_xor (x ∷ xs) (y ∷ ys) hx hy (suc k) = bytes_xor xs ys (λ j. hx (suc j)) (λ j. hy (suc j)) k

-- ---- the loop of `distance`

set_below : (xor a b : List ℕ) (i k : ℕ) → k < i → get_or xor k 0 ≡ bit_xor (get_or a k 0) (get_or b k 0)
    → get_or (set xor i (bit_xor (get_or a i 0) (get_or b i 0))) k 0 ≡ bit_xor (get_or a k 0) (get_or b k 0)
set_below xor a b i k l h = grind (arith, common_steps)

set_there : (xor a b : List ℕ) (i k : ℕ) → i < length xor → k ≡ i
    → get_or (set xor i (bit_xor (get_or a i 0) (get_or b i 0))) k 0 ≡ bit_xor (get_or a k 0) (get_or b k 0)
set_there xor a b i k l h = grind (arith, common_steps)

pub one_set : (xor a b : List ℕ) (i : ℕ) → i < length xor → ((k : ℕ) → k < i → get_or xor k 0 ≡ bit_xor (get_or a k 0) (get_or b k 0))
    → (k : ℕ) → k < i + 1 → get_or (set xor i (bit_xor (get_or a i 0) (get_or b i 0))) k 0 ≡ bit_xor (get_or a k 0) (get_or b k 0)
one_set xor a b i l h k m = by (cases_lt k i)
  where
    by : (k < i) ⊎ (i ≤ k) → get_or (set xor i (bit_xor (get_or a i 0) (get_or b i 0))) k 0 ≡ bit_xor (get_or a k 0) (get_or b k 0)
    by (inl f) = set_below xor a b i k f (h k f)
    by (inr f) = set_there xor a b i k l (omega (arith, m, f))

pub length_set : (xor : List ℕ) (i v : ℕ) → length xor ≡ 20 → length (set xor i v) ≡ 20
length_set xor i v h = grind (arith, common_steps)

pub all_set : (xor a b : List ℕ) → length xor ≡ 20 → length a ≡ 20 → length b ≡ 20
    → ((k : ℕ) → k < 20 → get_or xor k 0 ≡ bit_xor (get_or a k 0) (get_or b k 0)) → xor ≡ xor_of a b
all_set xor a b x y z h =
    let same : length a ≡ length b = omega arith in
    let long : length xor ≡ length (xor_of a b) = omega (arith, length-xor_of a b same) in
    same_number_lists xor (xor_of a b) long (λ k l. h k (omega (arith, l, x)) ∙ sym (get_or-xor_of a b k same (omega (arith, l, x, y))))

-- ---- which id is nearer

pub record Ids (a b hash : List ℕ) : Type 0 where
  pub a_long : length a ≡ 20
  pub b_long : length b ≡ 20
  pub hash_long : length hash ≡ 20
  pub a_small : (k : ℕ) → get_or a k 0 < 2 ^ 8
  pub b_small : (k : ℕ) → get_or b k 0 < 2 ^ 8
  pub hash_small : (k : ℕ) → get_or hash k 0 < 2 ^ 8

pub by_number : (a b hash x y : List ℕ) → Ids a b hash → x ≡ xor_of a hash → y ≡ xor_of b hash
    → slice_cmp nat_cmp x y ≡ nat_cmp (distance_of a hash) (distance_of b hash)
by_number a b hash x y ids ex ey =
    let a_same : length a ≡ length hash = omega (arith, ids.a_long, ids.hash_long) in
    let b_same : length b ≡ length hash = omega (arith, ids.b_long, ids.hash_long) in
    let long : length (xor_of a hash) ≡ length (xor_of b hash) = omega (arith, length-xor_of a hash a_same, length-xor_of b hash b_same, a_same, b_same) in
    ap (λ z. slice_cmp nat_cmp z y) ex ∙ ap (λ z. slice_cmp nat_cmp (xor_of a hash) z) ey
    ∙ by_numbers (xor_of a hash) (xor_of b hash) long (bytes_xor a hash ids.a_small ids.hash_small) (bytes_xor b hash ids.b_small ids.hash_small)

pub only_same : (a b hash x y : List ℕ) → Ids a b hash → x ≡ xor_of a hash → y ≡ xor_of b hash → slice_cmp nat_cmp x y ≡ Equal → a ≡ b
only_same a b hash x y ids ex ey h =
    same_ids a b hash (omega (arith, ids.a_long, ids.hash_long)) (omega (arith, ids.b_long, ids.hash_long)) (sym ex ∙ equal_bytes x y h ∙ ey)

pub is_same : (a b hash x y : List ℕ) → x ≡ xor_of a hash → y ≡ xor_of b hash → a ≡ b → slice_cmp nat_cmp x y ≡ Equal
is_same a b hash x y ex ey h = ap (λ z. slice_cmp nat_cmp z y) (ex ∙ ap (λ z. xor_of z hash) h ∙ sym ey) ∙ order_self y
