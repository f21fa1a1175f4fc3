-- Each connection that isn't over has a number, if fewer than 2 ^ 64 - 1 have begun.
use Rattle.bt_talk.specs.declared.terms.Terms.{Terms}
use Rattle.std.proofs.Common.{◌≡◌, ◌∙◌, ◌==◌, ℕ, zero, suc, ◌+◌, ◌-◌, ◌^◌, ◌<◌, ◌≤◌, min, cond, nat_lt, List, [], ◌∷◌, length}
use Rattle.std.proofs.Common.{Option, Some, None, inl, inr, refl, sym, subst, arith}
use Rattle.std.specs.List.{count_by}
use Rattle.std.specs.Map.{lookup}
use Rattle.std.proofs.lemmas.Bool.{cases_Bool, cases_lt}
use Rattle.std.proofs.lemmas.Bool.Decides.{nat_tests}
use Rattle.std.proofs.lemmas.List.{append_cancel_left}
use Rattle.std.proofs.lemmas.List.Sums.{count_by-le-length, sum_by-cons}
use Rattle.bt_capture.specs.Arrivals.{Arrival}
use Rattle.bt_capture.specs.Following.{AreBegun, AreNumbered, Finished, IsFirstAt, IsLeft, IsShared, count_open, count_over, taken_between}
use Rattle.bt_capture.specs.Tables.{Held, same_pair}
use Rattle.bt_capture.specs.declared.ending.Form.{Form}
use Rattle.bt_capture.specs.declared.pair.Pair.{Pair}
use Rattle.bt_capture.proofs.Numbers.{at_most_one, counted, counted_cons, none_began, one_began, one_if, one_if_began}
use Rattle.bt_capture.proofs.Shares.{AllShares}
use Rattle.bt_capture.proofs.Streaming.{other_open}

abbrev number_of : Finished → ℕ
number_of f = f.number

abbrev number_in : Pair × Held → ℕ
number_in e = e.1.value.number

next_below : (b m : ℕ) → one_if (nat_lt m (b + 1)) ≡ one_if (nat_lt m b) + one_if (m == b)
next_below b m = grind (arith, nat_tests)

-- how many have a number below this
module _ {X : Type 0} (number : X → ℕ) where
  abbrev below : ℕ → List X → ℕ
  below b xs = count_by (λ x. nat_lt (number x) b) xs

  below_cons : (b : ℕ) (x : X) (xs : List X) → below b (x ∷ xs) ≡ one_if (nat_lt (number x) b) + below b xs
  below_cons b x xs = sum_by-cons (λ y. cond (nat_lt (number y) b) 1 0) x xs

  below_none : (xs : List X) → below 0 xs ≡ 0
  below_none [] = refl
  below_none (x ∷ xs) = let cons = below_cons 0 x xs in let first = none_began (number x) in let rest = below_none xs in omega (arith, cons, first, rest)

  below_next : (b : ℕ) (xs : List X) → below (b + 1) xs ≡ below b xs + counted number b xs
  below_next b [] = refl
  below_next b (x ∷ xs) =
      let rest = below_next b xs in
      let more = below_cons (b + 1) x xs in
      let before = below_cons b x xs in
      let cons = counted_cons number b x xs in
      let first = next_below b (number x) in
      omega (arith, rest, more, before, cons, first)

-- Each lower number is one's.
all_below : (begun : ℕ) (fs : List Finished) (es : List (Pair × Held)) (m : ℕ) → AreNumbered begun fs es → m ≤ begun → m ≤ 2 ^ 64 - 1
    → below number_of m fs + below number_in m es ≡ m
all_below begun fs es zero i le small = let a = below_none number_of fs in let b = below_none number_in es in omega (arith, a, b)
all_below begun fs es (suc m) i le small =
    let rest = all_below begun fs es m i (omega (arith, le)) (omega (arith, small)) in
    let all = i m (omega (arith, small)) in
    let one = one_if_began begun m (omega (arith, le)) in
    let most = at_most_one begun m in
    let a = below_next number_of m fs in
    let b = below_next number_in m es in
    let P : ℕ → Type 0 = λ k. below number_of k fs + below number_in k es ≡ k in
    let next : m + 1 ≡ suc m = omega arith in
    subst P next (omega (arith, rest, all, one, most, a, b))

open_below : (es : List (Pair × Held)) (b : ℕ) (k : Pair) (c : Held) → below number_in b es ≡ length es → lookup (same_pair k) es ≡ Some c
    → c.value.number < b
open_below [] b k c all found = cc
open_below (e ∷ es) b k c all found =
    let cons = below_cons number_in b e es in
    let most = count_by-le-length (λ (x : Pair × Held). nat_lt (number_in x) b) es in
    let one = at_most_one b e.1.value.number in
    elim (cases_Bool (same_pair k e.0)) [
      | inl t ↦
          let is : Some e.1 ≡ Some c = rw t at found in
          let at : e.1 ≡ c = cc in
          subst (λ (h : Held). h.value.number < b) at (one_began b e.1.value.number (omega (arith, all, cons, most)))
      | inr f ↦ open_below es b k c (omega (arith, all, cons, most, one)) (rw f at found)
    ]

all_open : (begun : ℕ) (fs : List Finished) (es : List (Pair × Held)) → begun ≡ min (length fs + length es) (2 ^ 64 - 1) → AreNumbered begun fs es
    → begun < 2 ^ 64 - 1 → below number_in begun es ≡ length es
all_open begun fs es count numbered less =
    let all = all_below begun fs es begun numbered (omega arith) (omega (arith, less)) in
    let a = count_by-le-length (λ (f : Finished). nat_lt (number_of f) begun) fs in
    let b = count_by-le-length (λ (e : Pair × Held). nat_lt (number_in e) begun) es in
    omega (arith, all, a, b, count, less)

-- None that is over has its number.
not_over : (begun : ℕ) (fs : List Finished) (es : List (Pair × Held)) (k : Pair) (c : Held) → AreNumbered begun fs es
    → lookup (same_pair k) es ≡ Some c → c.value.number < 2 ^ 64 - 1 → count_over c.value.number fs ≡ 0
not_over begun fs es k c numbered found small =
    let n = c.value.number in
    let all = numbered n small in
    let most = at_most_one begun n in
    elim (cases_lt 0 (count_open n es)) [
      | inl lt ↦ omega (arith, all, most, lt)
      | inr le ↦ absurd (other_open (same_pair k) es c n found (omega (arith, le)) refl)
    ]

module _ (came : List Arrival) (fs : List Finished) (es : List (Pair × Held)) (begun : ℕ) (count : begun ≡ min (length fs + length es) (2 ^ 64 - 1))
    (numbered : AreNumbered begun fs es) (order : AreBegun came fs es begun) (form : Form) (told : List ℕ) (terms : Terms) where
  number_at : begun < 2 ^ 64 - 1 → (k : Pair) (x : Arrival) (rest : List Arrival) → IsShared k came fs (x ∷ rest) → (o : Option Held)
      → lookup (same_pair k) es ≡ o → IsLeft form told terms (x ∷ rest) o
      → (n : ℕ) × (n < begun) × (count_over n fs ≡ 0) × IsFirstAt came (order.place n) (x ∷ rest)
  number_at less k x rest share None found i = cc
  number_at less k x rest share (Some c) found i =
      let lt = open_below es begun k c (all_open begun fs es count numbered less) found in
      let small : c.value.number < 2 ^ 64 - 1 = omega (arith, lt, less) in
      let began = order.left k c (x ∷ rest) found share small in
      (c.value.number, began.0, not_over begun fs es k c numbered found small, began.1)

  pub each_numbered : AllShares form terms came fs told es → begun < 2 ^ 64 - 1 → (k : Pair) (x : Arrival) (rest : List Arrival)
      → IsShared k came fs (x ∷ rest) → (n : ℕ) × (n < begun) × (count_over n fs ≡ 0) × IsFirstAt came (order.place n) (x ∷ rest)
  each_numbered shared less k x rest share =
      let s = shared k in
      let same : s.taken ≡ x ∷ rest = append_cancel_left (taken_between k fs) s.taken (x ∷ rest) (sym s.share ∙ share) in
      number_at less k x rest share (lookup (same_pair k) es) refl (subst (λ l. IsLeft form told terms l (lookup (same_pair k) es)) same s.is)
