-- Lemmas on the gaps that spans leave.
use Rattle.std.proofs.Common.{◌≡◌, ℕ, zero, suc, max, ◌+◌, ◌-◌, ◌<◌, ◌≤◌, Bool, true, false, not, List, [], ◌∷◌, length, drop, get_or, refl, sym, ap}
use Rattle.std.proofs.Common.{subst, ◌∙◌, arith, inl, inr, ◌⊎◌, Option, add-zero}
use Rattle.std.specs.Prelude.{Some, None, if◌then◌else◌, nat_lt}
use Rattle.std.proofs.lemmas.Grind.{common_steps}
use Rattle.std.proofs.lemmas.Bool.{cases_lt}
use Rattle.bt_tcp.specs.declared.covered.Span.{Span}
use Rattle.bt_tcp.specs.declared.covered.Gap.{Gap}
use Rattle.bt_tcp.specs.declared.covered.Gaps.{Gaps}
use Rattle.bt_tcp.specs.Covered.{is_covered, AreApart, count_places, is_missing, begins_gap, IsFirst, AreGaps, sent_end, no_gaps, with_gap, gaps_between}
use Rattle.bt_tcp.proofs.CoveredProofs.{apart-before}

-- ---- how many places are such

count-add : (p : ℕ → Bool) (i m n : ℕ) → count_places p i (m + n) ≡ count_places p i m + count_places p (i + m) n
count-add p i zero n =
    let e : zero + n ≡ n = omega arith in
    ap (count_places p i) e ∙ ap (λ j. count_places p j n) (sym (add-zero i)) ∙ omega arith
count-add p i (suc m) n =
    let e : suc m + n ≡ suc (m + n) = omega arith in
    let f : i + 1 + m ≡ i + suc m = omega arith in
    let r = count-add p (i + 1) m n in
    let t = ap (λ j. count_places p j n) f in
    ap (count_places p i) e ∙ omega (arith, r, t)

count-none : (p : ℕ → Bool) (i n : ℕ) → ((j : ℕ) → i ≤ j → j < i + n → p j ≡ false) → count_places p i n ≡ 0
count-none p i zero h = refl
count-none p i (suc n) h =
    let e : p i ≡ false = h i (omega arith) (omega arith) in
    let r : count_places p (i + 1) n ≡ 0 = count-none p (i + 1) n (λ j a b. h j (omega arith) (omega arith)) in
    ap (λ b. (if b then 1 else 0) + count_places p (i + 1) n) e ∙ omega (arith, r)

count-all : (p : ℕ → Bool) (i n : ℕ) → ((j : ℕ) → i ≤ j → j < i + n → p j ≡ true) → count_places p i n ≡ n
count-all p i zero h = refl
count-all p i (suc n) h =
    let e : p i ≡ true = h i (omega arith) (omega arith) in
    let r : count_places p (i + 1) n ≡ n = count-all p (i + 1) n (λ j a b. h j (omega arith) (omega arith)) in
    ap (λ b. (if b then 1 else 0) + count_places p (i + 1) n) e ∙ omega (arith, r)

-- the first one alone
count-first : (p : ℕ → Bool) (i n : ℕ) → p i ≡ true → ((j : ℕ) → i < j → j < i + n → p j ≡ false) → 0 < n → count_places p i n ≡ 1
count-first p i zero e h l = absurd (omega arith)
count-first p i (suc n) e h l =
    let r : count_places p (i + 1) n ≡ 0 = count-none p (i + 1) n (λ j a b. h j (omega arith) (omega arith)) in
    ap (λ b. (if b then 1 else 0) + count_places p (i + 1) n) e ∙ omega (arith, r)

-- ---- missing places, and places at which a gap begins

missing-true : (c : ℕ → Bool) (i : ℕ) → c i ≡ false → is_missing c i ≡ true
missing-true c i e = ap not e

missing-false : (c : ℕ → Bool) (i : ℕ) → c i ≡ true → is_missing c i ≡ false
missing-false c i e = ap not e

-- `at` is the first place of all, or follows a covered one.
abbrev IsFresh : (ℕ → Bool) → ℕ → ℕ → Type 0
IsFresh c next at = (at ≡ next) ⊎ ((next < at) × (c (at - 1) ≡ true))

begins_case : (b : Bool) (c : ℕ → Bool) (next i : ℕ) → nat_lt next i ≡ b → c (i - 1) ≡ true → (if b then c (i - 1) else true) ≡ true
begins_case true c next i e h = h
begins_case false c next i e h = refl

begins-true : (c : ℕ → Bool) (next at : ℕ) → c at ≡ false → IsFresh c next at → begins_gap c next at ≡ true
begins-true c next at e (inl f) = grind (arith, common_steps)
begins-true c next at e (inr f) = ap (λ b. if b then false else if nat_lt next at then c (at - 1) else true) e ∙ begins_case (nat_lt next at) c next at refl f.1

begins-false : (c : ℕ → Bool) (next i : ℕ) → c i ≡ true → begins_gap c next i ≡ false
begins-false c next i e = ap (λ b. if b then false else if nat_lt next i then c (i - 1) else true) e

begins-later : (c : ℕ → Bool) (next i : ℕ) → next < i → c i ≡ false → c (i - 1) ≡ false → begins_gap c next i ≡ false
begins-later c next i l e f = grind (arith, common_steps)

abbrev one_if : Bool → ℕ
one_if b = if b then 1 else 0

one_lt : (a b : ℕ) → a < b → one_if (nat_lt a b) ≡ 1
one_lt a b h = grind (arith, common_steps)

none_lt : (a b : ℕ) → b ≤ a → one_if (nat_lt a b) ≡ 0
none_lt a b h = grind (arith, common_steps)

-- ---- the places up to a span's end

-- What the spans from `at` on are: no place before `from` is covered, and all from there up to `to` are.
record IsNext (c : ℕ → Bool) (at from to : ℕ) : Type 0 where
  missing : (i : ℕ) → at ≤ i → i < from → c i ≡ false
  covered : (i : ℕ) → at ≤ i → from ≤ i → i < to → c i ≡ true

next-missing : (c : ℕ → Bool) (at from to : ℕ) → from ≤ to → IsNext c at from to → count_places (is_missing c) at (max at to - at) ≡ from - at
next-missing c at from to l n =
    let m : ℕ = from - at in
    let k : ℕ = max at to - at - m in
    let e : max at to - at ≡ m + k = omega arith in
    let a : count_places (is_missing c) at m ≡ m = count-all (is_missing c) at m (λ j p q. missing-true c j (n.missing j p (omega arith))) in
    let b : count_places (is_missing c) (at + m) k ≡ 0 = count-none (is_missing c) (at + m) k (λ j p q. missing-false c j (n.covered j (omega arith)
    (omega arith) (omega arith))) in
    ap (count_places (is_missing c) at) e ∙ count-add (is_missing c) at m k ∙ omega (arith, a, b)

next-begins : (c : ℕ → Bool) (next at from to : ℕ) → next ≤ at → from ≤ to → IsFresh c next at → IsNext c at from to
    → count_places (begins_gap c next) at (max at to - at) ≡ one_if (nat_lt at from)
next-begins c next at from to o l f n =
    let m : ℕ = from - at in
    let k : ℕ = max at to - at - m in
    let e : max at to - at ≡ m + k = omega arith in
    let b : count_places (begins_gap c next) (at + m) k ≡ 0 = count-none (begins_gap c next) (at + m) k (λ j p q. begins-false c next j (n.covered j
    (omega arith) (omega arith) (omega arith))) in
    elim (cases_lt at from) [
      | inl h ↦ (
          let w : at ≤ at = omega arith in
          let a : count_places (begins_gap c next) at m ≡ 1 = count-first (begins_gap c next) at m (begins-true c next at (n.missing at w h) f)
          (λ j p q. begins-later c next j (omega arith) (n.missing j (omega arith) (omega arith)) (n.missing (j - 1) (omega arith) (omega arith)))
          (omega arith) in
          let t = one_lt at from h in
          ap (count_places (begins_gap c next) at) e ∙ count-add (begins_gap c next) at m k ∙ omega (arith, a, b, t))
      | inr h ↦ (
          let z : m ≡ 0 = omega arith in
          let a : count_places (begins_gap c next) at m ≡ 0 = ap (count_places (begins_gap c next) at) z in
          let t = none_lt at from h in
          ap (count_places (begins_gap c next) at) e ∙ count-add (begins_gap c next) at m k ∙ omega (arith, a, b, t))
    ]

-- ---- over all spans

with-sum : (gaps : Gaps) (from to : ℕ) → (with_gap gaps from to).sum ≡ gaps.sum + (to - from)
with-sum gaps from to = elim (cases_lt from to) [ inl l ↦ grind (arith, common_steps) | inr l ↦ grind (arith, common_steps) ]

with-count : (gaps : Gaps) (from to : ℕ) → (with_gap gaps from to).count ≡ gaps.count + one_if (nat_lt from to)
with-count gaps from to = elim (cases_lt from to) [ inl l ↦ grind (arith, common_steps) | inr l ↦ grind (arith, common_steps) ]

-- From `at` on the places of these spans are covered.
abbrev AreThose : (ℕ → Bool) → ℕ → List Span → Type 0
AreThose c at spans = (i : ℕ) → at ≤ i → c i ≡ is_covered spans i

span_before : (least : ℕ) (s : Span) (spans : List Span) (i : ℕ) → AreApart least (s ∷ spans) → i < s.from → is_covered (s ∷ spans) i ≡ false
span_before least s spans i a h =
    let w : s.from ≤ s.from = omega arith in
    let b : AreApart s.from (s ∷ spans) = (w, a.1, a.2) in
    apart-before s.from (s ∷ spans) i b h

span_in : (s : Span) (spans : List Span) (i : ℕ) → s.from ≤ i → i < s.to → is_covered (s ∷ spans) i ≡ true
span_in s spans i a b = grind (arith, common_steps)

span_after : (s : Span) (spans : List Span) (i : ℕ) → s.to ≤ i → is_covered (s ∷ spans) i ≡ is_covered spans i
span_after s spans i a = grind (arith, common_steps)

those-next : (c : ℕ → Bool) (at least : ℕ) (s : Span) (spans : List Span) → AreApart least (s ∷ spans) → AreThose c at (s ∷ spans) → IsNext c at s.from s.to
those-next c at least s spans a t = record {
  missing = λ i h l. t i h ∙ span_before least s spans i a l;
  covered = λ i h l m. t i h ∙ span_in s spans i l m;
}

those-rest : (c : ℕ → Bool) (at : ℕ) (s : Span) (spans : List Span) → AreThose c at (s ∷ spans) → AreThose c (max at s.to) spans
those-rest c at s spans t i h = t i (omega arith) ∙ span_after s spans i (omega arith)

none-next : (c : ℕ → Bool) (at sent : ℕ) → AreThose c at [] → IsNext c at sent sent
none-next c at sent t = record { missing = λ i h l. t i h; covered = λ i h l m. absurd (omega arith) }

fresh-rest : (c : ℕ → Bool) (next at from to : ℕ) → next ≤ at → from < to → IsFresh c next at → IsNext c at from to → IsFresh c next (max at to)
fresh-rest c next at from to o l f n = elim (cases_lt at to) [
  | inl h ↦ (
      let e : max at to ≡ to = omega arith in
      let w : next < to = omega arith in
      subst (λ x. IsFresh c next x) (sym e) (inr (w, n.covered (to - 1) (omega arith) (omega arith) (omega arith))))
  | inr h ↦ (let e : max at to ≡ at = omega arith in subst (λ x. IsFresh c next x) (sym e) f)
]

split : (p : ℕ → Bool) (at to last : ℕ) → count_places p at (max to last - at) ≡ count_places p at (max at to - at) + count_places p (max at to)
    (last - max at to)
split p at to last =
    let e : max to last - at ≡ (max at to - at) + (last - max at to) = omega arith in
    let f : at + (max at to - at) ≡ max at to = omega arith in
    ap (count_places p at) e ∙ count-add p at (max at to - at) (last - max at to)
    ∙ ap (λ j. count_places p at (max at to - at) + count_places p j (last - max at to)) f

to_end : (p : ℕ → Bool) (at sent : ℕ) → count_places p at (max at sent - at) ≡ count_places p at (sent - at)
to_end p at sent = (let e : max at sent - at ≡ sent - at = omega arith in ap (count_places p at) e)

all-sum : (c : ℕ → Bool) (gaps : Gaps) (at least : ℕ) (spans : List Span) (sent : ℕ) → AreApart least spans → AreThose c at spans
    → (gaps_between gaps at spans sent).sum ≡ gaps.sum + count_places (is_missing c) at (sent_end spans sent - at)
all-sum c gaps at least [] sent a t =
    let w : sent ≤ sent = omega arith in
    let m : count_places (is_missing c) at (sent - at) ≡ sent - at = sym (to_end (is_missing c) at sent)
    ∙ next-missing c at sent sent w (none-next c at sent t) in
    with-sum gaps at sent ∙ ap (λ n. gaps.sum + n) (sym m)
all-sum c gaps at least (s ∷ spans) sent a t =
    let w : s.from ≤ s.to = omega (arith, a.1) in
    let m = next-missing c at s.from s.to w (those-next c at least s spans a t) in
    let r = all-sum c (with_gap gaps at s.from) (max at s.to) (s.to + 1) spans sent a.2 (those-rest c at s spans t) in
    let e = split (is_missing c) at s.to (sent_end spans sent) in
    omega (arith, m, r, e, with-sum gaps at s.from)

all-count : (c : ℕ → Bool) (gaps : Gaps) (next at least : ℕ) (spans : List Span) (sent : ℕ) → AreApart least spans → AreThose c at spans
    → next ≤ at → IsFresh c next at
    → (gaps_between gaps at spans sent).count ≡ gaps.count + count_places (begins_gap c next) at (sent_end spans sent - at)
all-count c gaps next at least [] sent a t o f =
    let w : sent ≤ sent = omega arith in
    let m : count_places (begins_gap c next) at (sent - at) ≡ one_if (nat_lt at sent) = sym (to_end (begins_gap c next) at sent)
    ∙ next-begins c next at sent sent o w f (none-next c at sent t) in
    with-count gaps at sent ∙ ap (λ n. gaps.count + n) (sym m)
all-count c gaps next at least (s ∷ spans) sent a t o f =
    let w : s.from ≤ s.to = omega (arith, a.1) in
    let n = those-next c at least s spans a t in
    let m = next-begins c next at s.from s.to o w f n in
    let r = all-count c (with_gap gaps at s.from) next (max at s.to) (s.to + 1) spans sent a.2 (those-rest c at s spans t) (omega arith)
    (fresh-rest c next at s.from s.to o a.1 f n) in
    let e = split (begins_gap c next) at s.to (sent_end spans sent) in
    omega (arith, m, r, e, with-count gaps at s.from)

-- ---- the first gap

with-first_some : (gaps : Gaps) (from to : ℕ) (g : Gap) → gaps.first ≡ Some g → (with_gap gaps from to).first ≡ Some g
with-first_some gaps from to g e = elim (cases_lt from to) [ inl l ↦ grind (arith, common_steps) | inr l ↦ grind (arith, common_steps) ]

with-first_new : (gaps : Gaps) (from to : ℕ) → gaps.first ≡ None → from < to
    → (with_gap gaps from to).first ≡ Some (record { place = from; length = to - from })
with-first_new gaps from to e l = grind (arith, common_steps)

with-first_none : (gaps : Gaps) (from to : ℕ) → gaps.first ≡ None → to ≤ from → (with_gap gaps from to).first ≡ None
with-first_none gaps from to e l = grind (arith, common_steps)

all-some : (gaps : Gaps) (at : ℕ) (spans : List Span) (sent : ℕ) (g : Gap) → gaps.first ≡ Some g → (gaps_between gaps at spans sent).first ≡ Some g
all-some gaps at [] sent g e = with-first_some gaps at sent g e
all-some gaps at (s ∷ spans) sent g e = all-some (with_gap gaps at s.from) (max at s.to) spans sent g (with-first_some gaps at s.from g e)

all-first : (c : ℕ → Bool) (gaps : Gaps) (next at least : ℕ) (spans : List Span) (sent : ℕ) → AreApart least spans → AreThose c at spans → next ≤ at
    → ((i : ℕ) → next ≤ i → i < at → c i ≡ true) → gaps.first ≡ None → IsFirst c next (max at (sent_end spans sent)) (gaps_between gaps at spans sent).first
all-first c gaps next at least [] sent a t o b e = elim (cases_lt at sent) [
  | inl l ↦ subst (λ x. IsFirst c next (max at sent) x) (sym (with-first_new gaps at sent e l)) record {
    after = o;
    within = omega arith;
    some = omega arith;
    before = b;
    missing = λ i h m. t i h;
    ends = λ h. absurd (omega arith);
  }
  | inr l ↦ subst (λ x. IsFirst c next (max at sent) x) (sym (with-first_none gaps at sent e l)) (λ i h m. b i h (omega arith))
]
all-first c gaps next at least (s ∷ spans) sent a t o b e =
    let n = those-next c at least s spans a t in
    elim (cases_lt at s.from) [
      | inl l ↦ subst (λ x. IsFirst c next (max at (max s.to (sent_end spans sent))) x)
          (sym (all-some (with_gap gaps at s.from) (max at s.to) spans sent (record { place = at; length = s.from - at })
          (with-first_new gaps at s.from e l))) record {
            after = o;
            within = omega (arith, a.1);
            some = omega arith;
            before = b;
            missing = λ i h m. n.missing i h (omega arith);
            ends = λ h. n.covered (at + (s.from - at)) (omega arith) (omega arith) (omega (arith, a.1));
          }
      | inr l ↦ (
          let m : max (max at s.to) (sent_end spans sent) ≡ max at (max s.to (sent_end spans sent)) = omega arith in
          subst (λ x. IsFirst c next x (gaps_between gaps at (s ∷ spans) sent).first) m
          (all-first c (with_gap gaps at s.from) next (max at s.to) (s.to + 1) spans sent a.2 (those-rest c at s spans t) (omega arith)
          (λ i h k. elim (cases_lt i at) [ inl q ↦ b i h q | inr q ↦ n.covered i q (omega arith) (omega arith) ])
          (with-first_none gaps at s.from e l)))
    ]

first_end : (c : ℕ → Bool) (next last : ℕ) (o : Option Gap) → IsFirst c next (max next last) o → IsFirst c next last o
first_end c next last None h = λ i a b. h i a (omega arith)
first_end c next last (Some g) h = record {
  after = h.after;
  within = omega (arith, h.after, h.within, h.some);
  some = h.some;
  before = h.before;
  missing = h.missing;
  ends = λ l. h.ends (omega arith);
}

pub are-gaps : (spans : List Span) (next sent : ℕ) → AreApart 0 spans
    → AreGaps (is_covered spans) next (sent_end spans sent) (gaps_between no_gaps next spans sent)
are-gaps spans next sent a =
    let o : next ≤ next = omega arith in
    record {
      first = first_end (is_covered spans) next (sent_end spans sent) (gaps_between no_gaps next spans sent).first
          (all-first (is_covered spans) no_gaps next next 0 spans sent a (λ i h. refl) o (λ i h m. absurd (omega arith)) refl);
      count = all-count (is_covered spans) no_gaps next next 0 spans sent a (λ i h. refl) o (inl refl) ∙ omega arith;
      sum = all-sum (is_covered spans) no_gaps next 0 spans sent a (λ i h. refl) ∙ omega arith;
    }

-- ---- one span more

apart_at : (least : ℕ) (spans : List Span) (i : ℕ) (d : Span) → AreApart least spans → i < length spans → (get_or spans i d).from < (get_or spans i d).to
apart_at least [] i d a h = absurd (omega arith)
apart_at least (s ∷ spans) zero d a h = a.1
apart_at least (s ∷ spans) (suc i) d a h = apart_at (s.to + 1) spans i d a.2 (omega arith)

pub step-below : (gaps gaps' : Gaps) (at at' : ℕ) (spans : List Span) (i : ℕ) (d : Span) → AreApart 0 spans → i < length spans
    → gaps' ≡ with_gap gaps at (get_or spans i d).from
    → at' ≡ max at (get_or spans i d).to → gaps.sum ≤ at → gaps'.sum ≤ at'
step-below gaps gaps' at at' spans i d a h e f b =
    let s = ap (λ g. g.sum) e in
    omega (arith, s, f, apart_at 0 spans i d a h, with-sum gaps at (get_or spans i d).from)

pub step-counted : (gaps gaps' : Gaps) (from to : ℕ) → gaps' ≡ with_gap gaps from to → gaps.count ≤ gaps.sum → gaps'.count ≤ gaps'.sum
step-counted gaps gaps' from to e b =
    let s = ap (λ g. g.sum) e in
    let n = ap (λ g. g.count) e in
    elim (cases_lt from to) [
      | inl l ↦ omega (arith, s, n, one_lt from to l, with-sum gaps from to, with-count gaps from to)
      | inr l ↦ omega (arith, s, n, none_lt from to l, with-sum gaps from to, with-count gaps from to)
    ]

pub step-found : (gaps gaps' : Gaps) (at at' : ℕ) (spans : List Span) (i : ℕ) (d : Span) (sent : ℕ) → i < length spans
    → gaps' ≡ with_gap gaps at (get_or spans i d).from
    → at' ≡ max at (get_or spans i d).to → gaps_between gaps' at' (drop (i + 1) spans) sent ≡ gaps_between gaps at (drop i spans) sent
step-found gaps gaps' at at' spans i d sent h e f =
    let k : drop i spans ≡ get_or spans i d ∷ drop (i + 1) spans = grind (arith, common_steps) in
    ap (λ g. gaps_between g at' (drop (i + 1) spans) sent) e
    ∙ ap (λ x. gaps_between (with_gap gaps at (get_or spans i d).from) x (drop (i + 1) spans) sent) f
    ∙ sym (ap (λ x. gaps_between gaps at x sent) k)

pub step-end : (gaps gaps' : Gaps) (at : ℕ) (spans : List Span) (i sent : ℕ) → length spans ≤ i → gaps' ≡ with_gap gaps at sent
    → gaps_between gaps at (drop i spans) sent ≡ gaps'
step-end gaps gaps' at spans i sent h e =
    let k : drop i spans ≡ [] = grind (arith, common_steps) in
    ap (λ x. gaps_between gaps at x sent) k ∙ sym e
