-- One more id: what is near it, and how many more of them have another one near.
use Rattle.std.proofs.Common.{◌≡◌, ◌≢◌, ℕ, ◌+◌, ◌-◌, ◌^◌, ◌%◌, ◌<◌, ◌≤◌, inl, inr, Bool, true, false, ◌&&◌, ◌||◌, not, cond, if◌then◌else◌, nat_lt}
use Rattle.std.proofs.Common.{List, [], ◌∷◌, ◌++◌}
use Rattle.std.proofs.Common.{Option, Some, None, is_some, unwrap_or, refl, sym, ◌∙◌, ap, subst, arith, min}
use Rattle.std.specs.Prelude.{count_by, ◌==◌}
use Rattle.std.specs.List.{AllByRecursion, list_any}
use mathlib.Core.Path.{fun_ext}
use Rattle.std.specs.Option.{option_map}
use Rattle.std.specs.Ordering.{nat_cmp, is_eq}
use Rattle.std.proofs.lemmas.Bool.{cases_eq, cases_lt}
use Rattle.std.proofs.lemmas.Bool.Decides.{nat_tests}
use Rattle.std.proofs.lemmas.List.Sums.{sum_by_push, sum_by-cons}
use Rattle.std.proofs.lemmas.List.Folds.{list_any-append}
use Rattle.bt_utp.specs.Near.{is_near, count_near}
use Rattle.bt_utp.specs.Ids.{is_alone}

-- ---- three ids are near one: n is the next one of k, and l the one before
abbrev pub AreAround : ℕ → ℕ → ℕ → Type 0
AreAround k n l = (k < 65536) × (n ≡ (k + 1) % 65536) × (l < 65536) × ((l + 1) % 65536 ≡ k)

abbrev any_of : ℕ → ℕ → ℕ → ℕ → Bool
any_of k n l j = k == j || (n == j || l == j)

apart : (k n l : ℕ) → AreAround k n l → (k ≢ n) × (k ≢ l) × (n ≢ l)
apart k n l h = (λ e. omega (arith, e, h.0, h.1), λ e. omega (arith, e, h.2, h.3), λ e. omega (arith, e, h.0, h.1, h.2, h.3))

wraps : (j l k : ℕ) → j < 65536 → l < 65536 → (l + 1) % 65536 ≡ k → (j + 1) % 65536 ≡ k → l ≡ j
wraps j l k g h e f = omega arith

last_is : (j k l : ℕ) → j < 65536 → l < 65536 → (l + 1) % 65536 ≡ k → ((j + 1) % 65536 == k) ≡ (l == j)
last_is j k l g h e = elim (cases_eq l j) [
  | inl same ↦ let f : (j + 1) % 65536 ≡ k = ap (λ i. (i + 1) % 65536) (sym same) ∙ e in grind (arith, nat_tests, same, f)
  | inr other ↦ let f : (j + 1) % 65536 ≢ k = (λ f. other (wraps j l k g h e f)) in grind (arith, nat_tests, other, f)
]

or_swap : (a b c : Bool) → (a || (b || c)) ≡ (a || (c || b))
or_swap true b c = refl
or_swap false true true = refl
or_swap false true false = refl
or_swap false false true = refl
or_swap false false false = refl

-- which ids are near k, and to which ones k is near
from_one : (k n l j : ℕ) → AreAround k n l → j < 65536 → is_near k j ≡ any_of k n l j
from_one k n l j h g =
    ap (λ t. k == j || (t || (j + 1) % 65536 == k)) (ap (λ i. i == j) (sym h.1))
    ∙ ap (λ t. k == j || (n == j || t)) (last_is j k l g h.2 h.3)

eqb_sym : (a b : ℕ) → (a == b) ≡ (b == a)
eqb_sym a b = grind (arith, nat_tests)

to_one : (k n l j : ℕ) → AreAround k n l → j < 65536 → is_near j k ≡ any_of k n l j
to_one k n l j h g =
    ap (λ t. t || ((j + 1) % 65536 == k || (k + 1) % 65536 == j)) (eqb_sym j k)
    ∙ or_swap (k == j) ((j + 1) % 65536 == k) ((k + 1) % 65536 == j) ∙ from_one k n l j h g

eqb_self : (a : ℕ) → (a == a) ≡ true
eqb_self a = grind (arith, nat_tests)

-- ---- counts
abbrev pub bit : Bool → ℕ
bit b = cond b 1 0

abbrev same_as : ℕ → List ℕ → ℕ
same_as k ids = count_by (λ j. k == j) ids

abbrev pub near_to : ℕ → List ℕ → ℕ
near_to k ids = count_by (is_near k) ids

pub front : (p : ℕ → Bool) (x : ℕ) (xs : List ℕ) → count_by p (x ∷ xs) ≡ bit (p x) + count_by p xs
front p x xs = sum_by-cons (λ j. bit (p j)) x xs

pub pushed : (p : ℕ → Bool) (xs : List ℕ) (x : ℕ) → count_by p (xs ++ x ∷ []) ≡ count_by p xs + bit (p x)
pushed p xs x = sum_by_push (λ j. bit (p j)) xs x

sum_of : (p q r : ℕ → Bool) → ((j : ℕ) → bit (p j) ≡ bit (q j) + bit (r j)) → (xs : List ℕ) → count_by p xs ≡ count_by q xs + count_by r xs
sum_of p q r h [] = refl
sum_of p q r h (x ∷ xs) = omega (arith, front p x xs, front q x xs, front r x xs, h x, sum_of p q r h xs)

some_or : (b a : Bool) (n m : ℕ) → m ≡ bit b + n → a ≡ nat_lt 0 n → (b || a) ≡ nat_lt 0 m
some_or true a n m h g = grind (arith, nat_tests)
some_or false a n m h g = g ∙ ap (nat_lt 0) (omega (arith, h))

any_counts : (p : ℕ → Bool) (xs : List ℕ) → list_any p xs ≡ nat_lt 0 (count_by p xs)
any_counts p [] = refl
any_counts p (x ∷ xs) = some_or (p x) (list_any p xs) (count_by p xs) (count_by p (x ∷ xs)) (front p x xs) (any_counts p xs)

bit_le : (a b : Bool) → (a ≡ true → b ≡ true) → bit a ≤ bit b
bit_le true b h = rw (h refl) (omega arith)
bit_le false b h = omega arith

pub fewer : (p q : ℕ → Bool) → ((j : ℕ) → p j ≡ true → q j ≡ true) → (xs : List ℕ) → count_by p xs ≤ count_by q xs
fewer p q h [] = omega arith
fewer p q h (x ∷ xs) = omega (arith, front p x xs, front q x xs, bit_le (p x) (q x) (h x), fewer p q h xs)

same_is_near : (k j : ℕ) → (k == j) ≡ true → is_near k j ≡ true
same_is_near k j h = rw h refl

same_near : (k : ℕ) (ids : List ℕ) → same_as k ids ≤ near_to k ids
same_near k ids = fewer (λ j. k == j) (is_near k) (same_is_near k) ids

shuffle : (a b c x y z : Bool) → ((a || (b || c)) || (x || (y || z))) ≡ ((a || x) || ((b || y) || (c || z)))
shuffle true b c x y z = refl
shuffle false true c true y z = refl
shuffle false true c false y z = refl
shuffle false false true true y z = refl
shuffle false false true false true z = refl
shuffle false false true false false z = refl
shuffle false false false x y z = refl

-- ---- those that are near k, and of which a is true
abbrev part : Bool → ℕ → ℕ
part a n = cond a n 0

one_of : (k n l j : ℕ) → AreAround k n l → (a : ℕ → Bool)
    → bit (any_of k n l j && a j) ≡ part (a k) (bit (k == j)) + (part (a n) (bit (n == j)) + part (a l) (bit (l == j)))
one_of k n l j h a =
    let d = apart k n l h in
    elim (cases_eq k j) [
      | inl here ↦ let n' : n ≢ j = (λ e. d.0 (here ∙ sym e)) in let l' : l ≢ j = (λ e. d.1 (here ∙ sym e)) in grind (arith, nat_tests, here, n', l')
      | inr k' ↦ elim (cases_eq n j) [
        | inl here ↦ let l' : l ≢ j = (λ e. d.2 (here ∙ sym e)) in grind (arith, nat_tests, here, k', l')
        | inr n' ↦ elim (cases_eq l j) [ inl here ↦ grind (arith, nat_tests, here, k', n') | inr l' ↦ grind (arith, nat_tests, k', n', l') ]
      ]
    ]

part_sum : (a : Bool) (m n r : ℕ) → r ≡ m + n → part a r ≡ part a m + part a n
part_sum true m n r h = h
part_sum false m n r h = refl

near_and : (k n l : ℕ) (ids : List ℕ) → AreAround k n l → (a : ℕ → Bool) → AllByRecursion (λ j. j < 65536) ids
    → count_by (λ j. is_near j k && a j) ids ≡ part (a k) (same_as k ids) + (part (a n) (same_as n ids) + part (a l) (same_as l ids))
near_and k n l [] h a small = grind (arith, nat_tests)
near_and k n l (x ∷ xs) h a small =
    let one = ap (λ t. bit (t && a x)) (to_one k n l x h small.0) ∙ one_of k n l x h a in
    let more = near_and k n l xs h a small.1 in
    omega (
      arith,
      one,
      more,
      front (λ j. is_near j k && a j) x xs,
      part_sum (a k) (bit (k == x)) (same_as k xs) (same_as k (x ∷ xs)) (front (λ j. k == j) x xs),
      part_sum (a n) (bit (n == x)) (same_as n xs) (same_as n (x ∷ xs)) (front (λ j. n == j) x xs),
      part_sum (a l) (bit (l == x)) (same_as l xs) (same_as l (x ∷ xs)) (front (λ j. l == j) x xs),
    )

-- ---- what is kept of each id

pub some_alone : (ids : List ℕ) (k : ℕ) → is_some (is_alone ids k) ≡ list_any (λ j. k == j) ids
unfolding is_alone
some_alone ids k = elim (list_any (λ j. k == j) ids) as (λ t. is_some (if t then Some (near_to k ids == 1) else None) ≡ t) [ true ↦ refl | false ↦ refl ]

-- one that is alone came once
alone_part : (b : Bool) (n c : ℕ) → b ≡ nat_lt 0 n → n ≤ c → part (c == 1) n ≡ bit (unwrap_or (if b then Some (c == 1) else None) false)
alone_part true n c h le = elim (cases_eq c 1) [
  | inl one ↦ grind (arith, nat_tests, h, le, one)
  | inr other ↦ grind (arith, nat_tests, other)
]
alone_part false n c h le = elim (cases_eq n 0) [
  | inl none ↦ grind (arith, nat_tests, none)
  | inr some ↦ grind (arith, nat_tests, h, some)
]

-- 1 for an id that came, and is alone
abbrev lone : List ℕ → ℕ → ℕ
lone ids k = bit (unwrap_or (is_alone ids k) false)

alone_count : (ids : List ℕ) (k : ℕ) → part (near_to k ids == 1) (same_as k ids) ≡ lone ids k
unfolding is_alone
alone_count ids k = alone_part (list_any (λ j. k == j) ids) (same_as k ids) (near_to k ids) (any_counts (λ j. k == j) ids) (same_near k ids)

any_or : (p q r : ℕ → Bool) (xs : List ℕ) → list_any (λ j. p j || (q j || r j)) xs ≡ (list_any p xs || (list_any q xs || list_any r xs))
any_or p q r [] = refl
any_or p q r (x ∷ xs) = ap (λ t. (p x || (q x || r x)) || t) (any_or p q r xs) ∙ shuffle (p x) (q x) (r x) (list_any p xs) (list_any q xs) (list_any r xs)

any_alike : (p q : ℕ → Bool) (xs : List ℕ) → ((j : ℕ) → j < 65536 → p j ≡ q j) → AllByRecursion (λ j. j < 65536) xs → list_any p xs ≡ list_any q xs
any_alike p q [] h small = refl
any_alike p q (x ∷ xs) h small = ap (λ t. t || list_any p xs) (h x small.0) ∙ ap (λ t. q x || t) (any_alike p q xs h small.1)

-- whether an id near k came
abbrev pub came : List ℕ → ℕ → ℕ → ℕ → Bool
came ids k n l = is_some (is_alone ids k) || (is_some (is_alone ids n) || is_some (is_alone ids l))

pub came_is : (k n l : ℕ) (ids : List ℕ) → AreAround k n l → AllByRecursion (λ j. j < 65536) ids → came ids k n l ≡ nat_lt 0 (near_to k ids)
came_is k n l ids h small =
    ap (λ t. t || (is_some (is_alone ids n) || is_some (is_alone ids l))) (some_alone ids k)
    ∙ ap (λ t. list_any (λ j. k == j) ids || (t || is_some (is_alone ids l))) (some_alone ids n)
    ∙ ap (λ t. list_any (λ j. k == j) ids || (list_any (λ j. n == j) ids || t)) (some_alone ids l)
    ∙ sym (any_or (λ j. k == j) (λ j. n == j) (λ j. l == j) ids)
    ∙ sym (any_alike (is_near k) (any_of k n l) ids (λ j g. from_one k n l j h g) small)
    ∙ any_counts (is_near k) ids

-- ---- one id more

crossing : (c : ℕ) (b : Bool) → bit (nat_lt 1 (c + bit b)) ≡ bit (nat_lt 1 c) + bit (b && (c == 1))
crossing c true = elim (cases_eq c 1) [ inl one ↦ grind (arith, nat_tests, one) | inr other ↦ grind (arith, nat_tests, other) ]
crossing c false =
    let zero_more : c + 0 ≡ c = omega arith in
    let same : bit (nat_lt 1 c) ≡ bit (nat_lt 1 c) + 0 = omega arith in
    ap (λ n. bit (nat_lt 1 n)) zero_more ∙ same

own_near : (k : ℕ) → is_near k k ≡ true
own_near k = same_is_near k k (grind (arith, nat_tests))

last_one : (k : ℕ) (ids : List ℕ) → nat_lt 1 (near_to k (ids ++ k ∷ [])) ≡ nat_lt 0 (near_to k ids)
last_one k ids = ap (nat_lt 1) (pushed (is_near k) ids k) ∙ ap (λ b. nat_lt 1 (near_to k ids + bit b)) (own_near k) ∙ grind (arith, nat_tests)

counted : (k n l : ℕ) (ids : List ℕ) → AreAround k n l → AllByRecursion (λ j. j < 65536) ids
    → count_near (ids ++ k ∷ []) ≡ count_near ids + (lone ids k + (lone ids n + lone ids l)) + bit (nat_lt 0 (near_to k ids))
unfolding count_near
counted k n l ids h small =
    let now : ℕ → Bool = λ j. nat_lt 1 (near_to j (ids ++ k ∷ [])) in
    let was : ℕ → Bool = λ j. nat_lt 1 (near_to j ids) in
    let met : ℕ → Bool = λ j. is_near j k && (near_to j ids == 1) in
    omega (
      arith,
      pushed now ids k,
      ap bit (last_one k ids),
      sum_of now was met (λ j. ap (λ c. bit (nat_lt 1 c)) (pushed (is_near j) ids k) ∙ crossing (near_to j ids) (is_near j k)) ids,
      near_and k n l ids h (λ j. near_to j ids == 1) small,
      alone_count ids k,
      alone_count ids n,
      alone_count ids l,
    )

-- what a step of the code leaves at an id
abbrev pub joined : ℕ → ℕ → Option Bool → Option Bool
joined n q o = if n == q then option_map (λ _. false) o else o

abbrev pub put : ℕ → ℕ → Bool → Option Bool → Option Bool
put k q near o = cond (k == q) (Some (not near)) o

one_more : (c : ℕ) (near : Bool) → near ≡ nat_lt 0 c → not near ≡ (c + 1 == 1)
one_more c near e = ap not e ∙ elim (cases_eq c 0) [ inl none ↦ grind (arith, nat_tests, none) | inr some ↦ grind (arith, nat_tests, some) ]

-- an id that came isn't alone after one near it
no_more : (b : Bool) (c n : ℕ) → b ≡ nat_lt 0 n → n ≤ c → option_map (λ _. false) (if b then Some (c == 1) else None) ≡ (if b then Some (c + 1 == 1) else None)
no_more true c n h le = let some : c + 1 ≢ 1 = (λ e. grind (arith, nat_tests, h, le, e)) in ap Some (grind (arith, nat_tests, some))
no_more false c n h le = refl

or_false : (b : Bool) → b ≡ (b || false)
or_false true = refl
or_false false = refl

or_true : (b : Bool) → true ≡ (b || true)
or_true true = refl
or_true false = refl

-- an id, after another one
after : (ids : List ℕ) (k q : ℕ)
    → is_alone (ids ++ k ∷ []) q ≡ (if list_any (λ j. q == j) ids || (q == k) then Some (near_to q ids + bit (is_near q k) == 1) else None)
unfolding is_alone
after ids k q =
    let came = list_any-append (λ j. q == j) ids (k ∷ []) ∙ ap (λ t. list_any (λ j. q == j) ids || t) (sym (or_false (q == k))) in
    ap (λ t. if t then Some (near_to q (ids ++ k ∷ []) == 1) else None) came
    ∙ ap (λ n. if list_any (λ j. q == j) ids || (q == k) then Some (n == 1) else None) (pushed (is_near q) ids k)

after_own : (ids : List ℕ) (k : ℕ) (near : Bool) → near ≡ nat_lt 0 (near_to k ids) → Some (not near) ≡ is_alone (ids ++ k ∷ []) k
after_own ids k near e =
    let came = or_true (list_any (λ j. k == j) ids) ∙ ap (λ t. list_any (λ j. k == j) ids || t) (sym (eqb_self k)) in
    ap Some (one_more (near_to k ids) near e)
    ∙ ap (λ b. Some (near_to k ids + bit b == 1)) (sym (own_near k))
    ∙ ap (λ t. if t then Some (near_to k ids + bit (is_near k k) == 1) else None) came
    ∙ sym (after ids k k)

after_near : (ids : List ℕ) (k q : ℕ) → (q == k) ≡ false → is_near q k ≡ true → option_map (λ _. false) (is_alone ids q) ≡ is_alone (ids ++ k ∷ []) q
unfolding is_alone
after_near ids k q other near =
    let came = or_false (list_any (λ j. q == j) ids) ∙ ap (λ t. list_any (λ j. q == j) ids || t) (sym other) in
    no_more (list_any (λ j. q == j) ids) (near_to q ids) (same_as q ids) (any_counts (λ j. q == j) ids) (same_near q ids)
    ∙ ap (λ b. if list_any (λ j. q == j) ids then Some (near_to q ids + bit b == 1) else None) (sym near)
    ∙ ap (λ t. if t then Some (near_to q ids + bit (is_near q k) == 1) else None) came
    ∙ sym (after ids k q)

after_far : (ids : List ℕ) (k q : ℕ) → (q == k) ≡ false → is_near q k ≡ false → is_alone ids q ≡ is_alone (ids ++ k ∷ []) q
unfolding is_alone
after_far ids k q other far =
    let none_more : near_to q ids ≡ near_to q ids + 0 = omega arith in
    let came = or_false (list_any (λ j. q == j) ids) ∙ ap (λ t. list_any (λ j. q == j) ids || t) (sym other) in
    ap (λ c. if list_any (λ j. q == j) ids then Some (c == 1) else None) (none_more ∙ ap (λ b. near_to q ids + bit b) (sym far))
    ∙ ap (λ t. if t then Some (near_to q ids + bit (is_near q k) == 1) else None) came
    ∙ sym (after ids k q)

big_none : (q : ℕ) (ids : List ℕ) → 65536 ≤ q → AllByRecursion (λ j. j < 65536) ids → list_any (λ j. q == j) ids ≡ false
big_none q [] big small = refl
big_none q (x ∷ xs) big small =
    let other : q ≢ x = (λ e. omega (arith, e, big, small.0)) in
    let f : (q == x) ≡ false = grind (arith, nat_tests, other) in
    rw f (big_none q xs big small.1)

none_alone : (q : ℕ) (ids : List ℕ) → list_any (λ j. q == j) ids ≡ false → is_alone ids q ≡ None
unfolding is_alone
none_alone q ids h = ap (λ t. if t then Some (near_to q ids == 1) else None) h

after_big : (ids : List ℕ) (k q : ℕ) → (q == k) ≡ false → 65536 ≤ q → AllByRecursion (λ j. j < 65536) ids → is_alone ids q ≡ is_alone (ids ++ k ∷ []) q
after_big ids k q other big small =
    let none = big_none q ids big small in
    none_alone q ids none
    ∙ ap (λ t. if t then Some (near_to q ids + bit (is_near q k) == 1) else None) (sym (ap (λ t. t || (q == k)) none ∙ other))
    ∙ sym (after ids k q)

-- ---- an id of a map, after a step

no_test : (a b : ℕ) → a ≢ b → (a == b) ≡ false
no_test a b h = grind (arith, nat_tests, h)

test : (a b : ℕ) → a ≡ b → (a == b) ≡ true
test a b h = grind (arith, nat_tests, h)

near_next : (k n l q : ℕ) → AreAround k n l → q < 65536 → n ≡ q → is_near q k ≡ true
near_next k n l q h small e = to_one k n l q h small ∙ rw (no_test k q (λ f. (apart k n l h).0 (f ∙ sym e)), test n q e) refl

near_last : (k n l q : ℕ) → AreAround k n l → q < 65536 → l ≡ q → is_near q k ≡ true
near_last k n l q h small e =
    to_one k n l q h small ∙ rw (no_test k q (λ f. (apart k n l h).1 (f ∙ sym e)), no_test n q (λ f. (apart k n l h).2 (f ∙ sym e)), test l q e) refl

not_near : (k n l q : ℕ) → AreAround k n l → q < 65536 → k ≢ q → n ≢ q → l ≢ q → is_near q k ≡ false
not_near k n l q h small a b c = to_one k n l q h small ∙ rw (no_test k q a, no_test n q b, no_test l q c) refl

pub alone_stepped : (k n l q : ℕ) (near : Bool) (ids : List ℕ) → AreAround k n l → AllByRecursion (λ j. j < 65536) ids → near ≡ nat_lt 0 (near_to k ids)
    → joined l q (joined n q (put k q near (is_alone ids q))) ≡ is_alone (ids ++ k ∷ []) q
alone_stepped k n l q near ids h small e =
    let d = apart k n l h in
    elim (cases_eq k q) [
      | inl here ↦
          rw (test k q here, no_test n q (λ f. d.0 (here ∙ sym f)), no_test l q (λ f. d.1 (here ∙ sym f)))
          (subst (λ i. Some (not near) ≡ is_alone (ids ++ k ∷ []) i) here (after_own ids k near e))
      | inr k' ↦ let other : (q == k) ≡ false = no_test q k (λ f. k' (sym f)) in elim (cases_eq n q) [
        | inl here ↦
            let fits : q < 65536 = omega (arith, here, h.1) in
            rw (no_test k q k', test n q here, no_test l q (λ f. d.2 (here ∙ sym f))) (after_near ids k q other (near_next k n l q h fits here))
        | inr n' ↦ elim (cases_eq l q) [
          | inl here ↦
              let fits : q < 65536 = omega (arith, here, h.2) in
              rw (no_test k q k', no_test n q n', test l q here) (after_near ids k q other (near_last k n l q h fits here))
          | inr l' ↦ rw (no_test k q k', no_test n q n', no_test l q l') (elim (cases_lt q 65536) [
            | inl fits ↦ after_far ids k q other (not_near k n l q h fits k' n' l')
            | inr big ↦ after_big ids k q other big small
          ])
        ]
      ]
    ]

pub small_more : (ids : List ℕ) (k : ℕ) → k < 65536 → AllByRecursion (λ j. j < 65536) ids → AllByRecursion (λ j. j < 65536) (ids ++ k ∷ [])
small_more [] k h small = (h, tt)
small_more (x ∷ xs) k h small = (small.0, small_more xs k h small.1)

least_sum : (s t c d m : ℕ) → s ≡ min c m → t ≡ min (s + d) m → t ≡ min (c + d) m
least_sum s t c d m h e = grind (arith, h, e)

-- the count, after a step: before is what the map had of the next id and of the last one when they were looked at
pub count_stepped : (k n l s t : ℕ) (near : Bool) (ids : List ℕ) (more : ℕ)
    → AreAround k n l → AllByRecursion (λ j. j < 65536) ids → near ≡ nat_lt 0 (near_to k ids)
    → s ≡ min (count_near ids) (2 ^ 64 - 1) → t ≡ min (s + more) (2 ^ 64 - 1)
    → more ≡ bit near + bit (unwrap_or (is_alone ids k) false) + bit (unwrap_or (is_alone ids n) false) + bit (unwrap_or (is_alone ids l) false)
    → t ≡ min (count_near (ids ++ k ∷ [])) (2 ^ 64 - 1)
count_stepped k n l s t near ids more h small e was sum is =
    least_sum s t (count_near ids) more (2 ^ 64 - 1) was sum
    ∙ ap (λ c. min c (2 ^ 64 - 1)) (omega (arith, counted k n l ids h small, ap bit e, is))

-- ---- what a map has after the code's steps: an id was put, and those around it are no longer alone

pub test_is : (k q : ℕ) → is_eq (nat_cmp k q) ≡ (k == q)
test_is k q = grind (arith, nat_tests)

module _ (k n l : ℕ) (near : Bool) (ids : List ℕ) (before put_in mid end : ℕ → Option Bool) (around : AreAround k n l)
    (are : (q : ℕ) → before q ≡ is_alone ids q)
    (first : (q : ℕ) → put_in q ≡ cond (is_eq (nat_cmp k q)) (Some (not near)) (before q))
    (second : (q : ℕ) → mid q ≡ joined n q (put_in q)) where
  put_is : (q : ℕ) → put_in q ≡ put k q near (is_alone ids q)
  put_is q = first q ∙ ap (λ t. cond t (Some (not near)) (before q)) (test_is k q) ∙ ap (put k q near) (are q)

  pub at_next : put_in n ≡ is_alone ids n
  at_next = put_is n ∙ ap (λ t. cond t (Some (not near)) (is_alone ids n)) (no_test k n (apart k n l around).0)

  pub at_last : mid l ≡ is_alone ids l
  at_last =
      second l ∙ ap (λ t. if t then option_map (λ _. false) (put_in l) else put_in l) (no_test n l (apart k n l around).2)
      ∙ put_is l ∙ ap (λ t. cond t (Some (not near)) (is_alone ids l)) (no_test k l (apart k n l around).1)

  pub each : AllByRecursion (λ j. j < 65536) ids → near ≡ nat_lt 0 (near_to k ids) → ((q : ℕ) → end q ≡ joined l q (mid q))
      → (q : ℕ) → end q ≡ is_alone (ids ++ k ∷ []) q
  each small e third q =
      third q ∙ ap (joined l q) (second q ∙ ap (joined n q) (put_is q)) ∙ alone_stepped k n l q near ids around small e

pub near_from : (k n l : ℕ) (ids : List ℕ) (before : ℕ → Option Bool) (near : Bool) → AreAround k n l → AllByRecursion (λ j. j < 65536) ids
    → ((q : ℕ) → before q ≡ is_alone ids q) → near ≡ (is_some (before k) || (is_some (before n) || is_some (before l))) → near ≡ nat_lt 0 (near_to k ids)
near_from k n l ids before near h small are e =
    e ∙ ap (λ f. is_some (f k) || (is_some (f n) || is_some (f l))) (let f : before ≡ is_alone ids = fun_ext are in f) ∙ came_is k n l ids h small

pub four : (a b c d e f g h : ℕ) → a ≡ e → b ≡ f → c ≡ g → d ≡ h → a + b + c + d ≡ e + f + g + h
four a b c d e f g h p q r s = omega (arith, p, q, r, s)
