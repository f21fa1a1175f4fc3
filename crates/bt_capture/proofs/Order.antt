-- The order in which connections began, and that of those that are left at the end.
use Rattle.std.proofs.Common.{◌≡◌, ◌∙◌, ℕ, ◌+◌, ◌-◌, ◌^◌, ◌<◌, ◌≤◌, min, map, nat_lt, true, false, if◌then◌else◌, List, [], ◌∷◌, ◌++◌, length, zero, suc}
use Rattle.std.proofs.Common.{append-nil, append_assoc, Some, None, refl, sym, ap, subst, arith, inl, inr}
use Rattle.std.specs.List.{filter, slice_get}
use Rattle.std.specs.List.Sorted.{IsNonDecreasing, IsNonDecreasingBy}
use Rattle.std.specs.Map.{lookup}
use Rattle.std.proofs.lemmas.Bool.{cases_Bool, cases_lt}
use Rattle.std.proofs.lemmas.Bool.Decides.{nat_tests}
use Rattle.std.proofs.lemmas.List.{append_cancel_left, get_or-map, length-append, length-map, map-append}
use Rattle.std.proofs.lemmas.List.Elements.{All-nil, All-push, All-weaker}
use Rattle.bt_capture.specs.Arrivals.{Arrival, is_between, pair_of}
use Rattle.bt_capture.specs.Following.{AreBegun, AreBegunTo, AreInOrder, AreLast, AreNotFinal, AtEnd, ComeLast, Coming, During, Finished, IsBegunAt, IsFirstAt}
use Rattle.bt_capture.specs.Following.{IsShared, MayBe, Phase, is_final, numbers, taken_between}
use Rattle.bt_capture.specs.Tables.{Held, same_pair}
use Rattle.bt_capture.specs.declared.pair.Pair.{Pair}
use Rattle.bt_capture.proofs.Entries.{same_is, same_self}
use Rattle.bt_capture.proofs.Shares.{filter_and, filter_less, taken_less}

-- ---- places

get_more : (xs ys : List Arrival) (i : ℕ) (x : Arrival) → slice_get xs i ≡ Some x → slice_get (xs ++ ys) i ≡ Some x
get_more [] ys i x e = cc
get_more (z ∷ zs) ys zero x e = e
get_more (z ∷ zs) ys (suc i) x e = get_more zs ys i x e

get_last : (xs : List Arrival) (x : Arrival) → slice_get (xs ++ x ∷ []) (length xs) ≡ Some x
get_last [] x = refl
get_last (z ∷ zs) x = get_last zs x

first_more : (came more taken later : List Arrival) (i : ℕ) → IsFirstAt came i taken → IsFirstAt (came ++ more) i (taken ++ later)
first_more came more [] later i e = absurd e
first_more came more (y ∷ ys) later i e = get_more came more i y e

-- More segments came.
at_more : (place : ℕ → ℕ) (came more taken : List Arrival) (begun n : ℕ) → IsBegunAt place came begun n taken → IsBegunAt place (came ++ more) begun n taken
at_more place came more taken begun n i small =
    let at = i small in
    (at.0, subst (IsFirstAt (came ++ more) (place n)) (append-nil taken) (first_more came more taken [] (place n) at.1))

-- It may have taken more segments.
pub at_later : (place : ℕ → ℕ) (came more taken later : List Arrival) (begun n : ℕ) → IsBegunAt place came begun n taken
    → IsBegunAt place (came ++ more) begun n (taken ++ later)
at_later place came more taken later begun n i small = let at = i small in (at.0, first_more came more taken later (place n) at.1)

pub in_order_more : (place : ℕ → ℕ) (came more : List Arrival) (begun : ℕ) (fs : List Finished) → AreInOrder place came begun fs
    → AreInOrder place (came ++ more) begun fs
in_order_more place came more begun fs i = record {
  ascending = i.ascending;
  over = All-weaker (λ f. IsBegunAt place came begun f.number f.taken) (λ f. IsBegunAt place (came ++ more) begun f.number f.taken)
      (λ f at. at_more place came more f.taken begun f.number at) fs i.over;
}

-- ---- steps

-- The first one is over.
pub order_over : (came : List Arrival) (fs : List Finished) (f : Finished) (p : Pair) (c : Held) (es : List (Pair × Held)) (begun : ℕ)
    → f.number ≡ c.value.number → f.pair ≡ p → lookup (same_pair p) es ≡ None → IsShared p came fs f.taken → AreBegun came fs ((p, c) ∷ es) begun
    → AreBegun came (fs ++ f ∷ []) es begun
order_over came fs f p c es begun number ends absent share i =
    let own : IsBegunAt i.place came begun c.value.number f.taken = i.left p c f.taken (rw (same_self p) refl) share in
    record {
      place = i.place;
      within = i.within;
      order = record {
        ascending = i.order.ascending;
        over = All-push (λ g. IsBegunAt i.place came begun g.number g.taken) fs f i.order.over
            (subst (λ n. IsBegunAt i.place came begun n f.taken) (sym number) own);
      };
      left = λ k d rest found shared. elim (cases_Bool (same_pair k p)) [
        | inl t ↦
            let none : lookup (same_pair k) es ≡ None = subst (λ q. lookup (same_pair q) es ≡ None) (sym (same_is k p t)) absent in
            cc
        | inr e ↦
            let apart : same_pair k f.pair ≡ false = subst (λ q. same_pair k q ≡ false) (sym ends) e in
            i.left k d rest (rw e found) (shared ∙ ap (λ l. l ++ rest) (taken_less k fs f apart))
      ];
    }

-- They are the same, in another order.
pub order_moved : (came : List Arrival) (fs : List Finished) (es gs : List (Pair × Held)) (begun : ℕ)
    → ((k : Pair) → lookup (same_pair k) gs ≡ lookup (same_pair k) es) → AreBegun came fs es begun → AreBegun came fs gs begun
order_moved came fs es gs begun same i = record {
  place = i.place;
  within = i.within;
  order = i.order;
  left = λ k c rest found share. i.left k c rest (sym (same k) ∙ found) share;
}

pub order_same : (came : List Arrival) (fs : List Finished) (es : List (Pair × Held)) (begun begun' : ℕ) → begun' ≡ begun → AreBegun came fs es begun
    → AreBegun came fs es begun'
order_same came fs es begun begun' e i = subst (AreBegun came fs es) (sym e) i

pub order_nothing : (es : List (Pair × Held)) (begun : ℕ) → es ≡ [] → begun ≡ 0 → AreBegun [] [] es begun
order_nothing es begun none zero_is =
    let place : ℕ → ℕ = λ n. 0 in
    record {
      place = place;
      within = λ n lt. absurd (omega (arith, lt, zero_is));
      order = record { ascending = λ m n less lt. absurd (omega (arith, lt, zero_is)); over = All-nil (λ f. IsBegunAt place [] begun f.number f.taken) };
      left = λ k c rest found share. absurd (let no = subst (λ l. lookup (same_pair k) l ≡ Some c) none found in cc);
    }

-- the places with one more
abbrev pub placed : (ℕ → ℕ) → ℕ → ℕ → ℕ → ℕ
placed place begun at n = if nat_lt n begun then place n else at

pub placed_before : (place : ℕ → ℕ) (begun at n : ℕ) → n < begun → placed place begun at n ≡ place n
placed_before place begun at n lt = let e : nat_lt n begun ≡ true = grind (arith, nat_tests) in rw e refl

pub placed_now : (place : ℕ → ℕ) (begun at n : ℕ) → begun ≤ n → placed place begun at n ≡ at
placed_now place begun at n le = let e : nat_lt n begun ≡ false = grind (arith, nat_tests) in rw e refl

at_begun : (place : ℕ → ℕ) (came taken : List Arrival) (begun begun' at n : ℕ) → begun ≤ begun' → IsBegunAt place came begun n taken
    → IsBegunAt (placed place begun at) came begun' n taken
at_begun place came taken begun begun' at n more i small =
    let was = i small in
    let lt = was.0 in
    (omega (arith, lt, more), subst (λ k. IsFirstAt came k taken) (sym (placed_before place begun at n lt)) was.1)

-- One more begins with the segment x.
pub order_begun : (came : List Arrival) (fs : List Finished) (x : Arrival) (p : Pair) (n : ℕ) (es : List (Pair × Held)) (begun begun' : ℕ) → n ≡ begun
    → begun' ≡ min (begun + 1) (2 ^ 64 - 1) → begun ≤ 2 ^ 64 - 1 → AreBegun came fs es begun → AreBegunTo came fs x p n [] es begun'
order_begun came fs x p n es begun begun' number count most i =
    let at = length came in
    let place = placed i.place begun at in
    let more : begun ≤ begun' = omega (arith, count, most) in
    record {
      place = place;
      within = λ m lt. elim (cases_lt m begun) [
        | inl less ↦
            let e = placed_before i.place begun at m less in
            let old = i.within m less in
            omega (arith, e, old)
        | inr le ↦ let e = placed_now i.place begun at m le in omega (arith, e)
      ];
      order = record {
        ascending = λ m k less lt. elim (cases_lt k begun) [
          | inl old ↦
              let first : m < begun = omega (arith, less, old) in
              let e = placed_before i.place begun at m first in
              let f = placed_before i.place begun at k old in
              let was = i.order.ascending m k less old in
              omega (arith, e, f, was)
          | inr le ↦
              let first : m < begun = omega (arith, less, lt, count, le) in
              let e = placed_before i.place begun at m first in
              let f = placed_now i.place begun at k le in
              let was = i.within m first in
              omega (arith, e, f, was)
        ];
        over = All-weaker (λ f. IsBegunAt i.place came begun f.number f.taken) (λ f. IsBegunAt place came begun' f.number f.taken)
            (λ f was. at_begun i.place came f.taken begun begun' at f.number more was) fs i.order.over;
      };
      own = λ small. (
        omega (arith, number, count, small),
        subst (λ k. IsFirstAt (came ++ x ∷ []) k (x ∷ [])) (sym (placed_now i.place begun at n (omega (arith, number)))) (get_last came x),
      );
      left = λ k c rest apart found share. at_begun i.place came rest begun begun' at c.value.number more (i.left k c rest found share);
    }

-- The segment x is one of the first connection's.
pub order_held : (came : List Arrival) (fs : List Finished) (x : Arrival) (p : Pair) (c : Held) (taken : List Arrival) (es : List (Pair × Held)) (begun : ℕ)
    → IsShared p came fs taken → AreBegun came fs ((p, c) ∷ es) begun → AreBegunTo came fs x p c.value.number taken es begun
order_held came fs x p c taken es begun share i = record {
  place = i.place;
  within = λ n lt. let old = i.within n lt in omega (arith, old);
  order = i.order;
  own = λ small.
      let was = i.left p c taken (rw (same_self p) refl) share small in
      (was.0, first_more came (x ∷ []) taken (x ∷ []) (i.place c.value.number) was.1);
  left = λ k d rest apart found shared. i.left k d rest (rw apart found) shared;
}

-- The connection takes the segment x.
pub order_took : (came : List Arrival) (fs : List Finished) (x : Arrival) (p : Pair) (n : ℕ) (c : Held) (taken : List Arrival) (es : List (Pair × Held))
    (begun : ℕ) → pair_of x ≡ p → c.value.number ≡ n → IsShared p came fs taken → AreBegunTo came fs x p n taken es begun
    → AreBegun (came ++ x ∷ []) fs ((p, c) ∷ es) begun
order_took came fs x p n c taken es begun ends number share i = record {
  place = i.place;
  within = λ m lt. let old = i.within m lt in let more = length-append came (x ∷ []) in omega (arith, old, more);
  order = in_order_more i.place came (x ∷ []) begun fs i.order;
  left = λ k d rest found shared. elim (cases_Bool (same_pair k p)) [
    | inl t ↦
        let is : k ≡ p = same_is k p t in
        let first : Some c ≡ Some d = rw t at found in
        let same : c ≡ d = cc in
        let mine : is_between k x ≡ true = subst (λ q. same_pair k q ≡ true) (sym ends) t in
        let own : IsShared k came fs taken = subst (λ q. IsShared q came fs taken) (sym is) share in
        let all : filter (is_between k) (came ++ x ∷ []) ≡ taken_between k fs ++ (taken ++ x ∷ []) =
        filter_and (is_between k) came x mine ∙ ap (λ l. l ++ x ∷ []) own ∙ append_assoc (taken_between k fs) taken (x ∷ []) in
        let rest_is : taken ++ x ∷ [] ≡ rest = append_cancel_left (taken_between k fs) (taken ++ x ∷ []) rest (sym all ∙ shared) in
        subst (λ l. IsBegunAt i.place (came ++ x ∷ []) begun d.value.number l) rest_is
        (subst (λ m. IsBegunAt i.place (came ++ x ∷ []) begun m (taken ++ x ∷ [])) (sym number ∙ ap (λ (h : Held). h.value.number) same) i.own)
    | inr e ↦
        let other : is_between k x ≡ false = subst (λ q. same_pair k q ≡ false) (sym ends) e in
        at_more i.place came (x ∷ []) rest begun d.value.number
        (i.left k d rest e (rw e at found) (sym (filter_less (is_between k) came x other) ∙ shared))
  ];
}

-- ---- those that are left at the end

pub last_over : (ph : Phase) (fs : List Finished) (f : Finished) (p : Pair) (c : Held) (es : List (Pair × Held)) → MayBe ph f.cause
    → f.number ≡ c.value.number → ComeLast ph fs ((p, c) ∷ es) → ComeLast ph (fs ++ f ∷ []) es
last_over During fs f p c es may number i = All-push (λ (g : Finished). is_final g.cause ≡ false) fs f i may
last_over (Coming q x) fs f p c es may number i = All-push (λ (g : Finished). is_final g.cause ≡ false) fs f i may
last_over AtEnd fs f p c es may number i =
    let of : Finished → ℕ = λ g. g.number in
    let same : map of i.late ++ (c.value.number ∷ numbers es) ≡ map of (i.late ++ f ∷ []) ++ numbers es =
    ap (λ n. map of i.late ++ (n ∷ numbers es)) (sym number) ∙ sym (append_assoc (map of i.late) (f.number ∷ []) (numbers es))
    ∙ ap (λ l. l ++ numbers es) (sym (map-append of i.late (f ∷ []))) in
    record {
      early = i.early;
      late = i.late ++ f ∷ [];
      is = ap (λ l. l ++ f ∷ []) i.is ∙ append_assoc i.early i.late (f ∷ []);
      early_are = i.early_are;
      ascending = subst IsNonDecreasing same i.ascending;
    }

pub ascend : (es : List (Pair × Held)) → IsNonDecreasingBy (λ e. e.1.value.number) es → IsNonDecreasing (numbers es)
ascend [] up = λ i j d le lt. absurd (omega (arith, lt))
ascend (e ∷ es) up = λ i j d le lt.
    let of : Pair × Held → ℕ = λ g. g.1.value.number in
    let all : List (Pair × Held) = e ∷ es in
    let size : length (numbers all) ≡ length all = length-map all of in
    let second : j < length all = omega (arith, lt, size) in
    let a = get_or-map of all i e d (omega (arith, le, second)) in
    let b = get_or-map of all j e d second in
    let c = up i j e le second in
    omega (arith, a, b, c)

-- None is over yet of those that are left.
pub last_begins : (fs : List Finished) (es : List (Pair × Held)) → IsNonDecreasing (numbers es) → AreNotFinal fs → AreLast fs (numbers es)
last_begins fs es up none = record { early = fs; late = []; is = sym (append-nil fs); early_are = none; ascending = up }
