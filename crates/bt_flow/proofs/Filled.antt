-- When the table of noted places has no room.
use Rattle.std.proofs.Common.{◌≡◌, ℕ, ◌+◌, ◌-◌, ◌<◌, ◌≤◌, max, Bool, true, false, List, [], ◌∷◌, length, refl, sym, ap, ◌∙◌, subst, arith, inl, inr}
use Rattle.std.specs.Prelude.{Option, Some, None, if◌then◌else◌, nat_lt}
use Rattle.std.proofs.lemmas.Bool.{cases_lt, lt-ltb, le-ltb, ltb-false}
use Rattle.bt_tcp.specs.declared.covered.Span.{Span}
use Rattle.bt_tcp.specs.Covered.{in_span, is_covered, AreApart, Adds, IsAlone}
use Rattle.bt_tcp.proofs.CoveredProofs.{apart-before, apart-less}
use Rattle.bt_flow.specs.declared.noted.Noted.{Noted}
use Rattle.bt_flow.specs.Notes.{spans_in, spans_noted, AddsIfRoom, NotesMore, HasNoRoom, HasNoRoomFor, ReachBase}
use Rattle.bt_flow.specs.Flows.{IsNotedIfRoom, LacksRoom, LacksRoomAmong}

-- ---- a place and a span

pub in_it : (s : Span) (i : ℕ) → s.from ≤ i → i < s.to → in_span s i ≡ true
in_it s i a b = ap (λ c. if c then false else nat_lt i s.to) (le-ltb i s.from a) ∙ lt-ltb i s.to b

pub from_it : (s : Span) (i : ℕ) → s.from ≤ i → in_span s i ≡ nat_lt i s.to
from_it s i a = ap (λ c. if c then false else nat_lt i s.to) (le-ltb i s.from a)

pub before_it : (s : Span) (i : ℕ) → i < s.from → in_span s i ≡ false
before_it s i a = ap (λ c. if c then false else nat_lt i s.to) (lt-ltb i s.from a)

neither : (b c : Bool) → c ≡ false → (if b then false else c) ≡ false
neither true c e = refl
neither false c e = e

past_it : (s : Span) (i : ℕ) → s.to ≤ i → in_span s i ≡ false
past_it s i a = neither (nat_lt i s.from) (nat_lt i s.to) (le-ltb i s.to a)

goes_on : (s : Span) (i : ℕ) → i + 1 < s.to → in_span s i ≡ true → in_span s (i + 1) ≡ true
goes_on s i a e = elim (cases_lt i s.from) [
  | inl l ↦ absurd (let z : true ≡ false = sym e ∙ before_it s i l in cc)
  | inr l ↦ in_it s (i + 1) (omega (arith, l)) a
]

pub covered_in : (s : Span) (spans : List Span) (i : ℕ) → s.from ≤ i → i < s.to → is_covered (s ∷ spans) i ≡ true
covered_in s spans i a b = ap (λ c. if c then true else is_covered spans i) (in_it s i a b)

-- ---- spans that begin before the base

pub both_reach : (p c q d : Bool) → (if p then true else c) ≡ true → (p ≡ true → q ≡ true) → (c ≡ true → d ≡ true) → (if q then true else d) ≡ true
both_reach true c q d e h k = ap (λ b. if b then true else d) (h refl)
both_reach false c true d e h k = refl
both_reach false c false d e h k = k e

pub one_reaches : (b c : Bool) → c ≡ true → (if b then true else c) ≡ true
one_reaches true c e = refl
one_reaches false c e = e

reach_one : (base next : ℕ) (spans spans' : List Span) → Adds (record { from = base; to = next }) spans spans' → ReachBase base spans → ReachBase base spans'
reach_one base next spans spans' a r i g e =
    let f : Span = record { from = base; to = next } in
    let old : is_covered spans i ≡ true = sym (ap (λ b. if b then true else is_covered spans i) (before_it f i g)) ∙ sym (a i) ∙ e in
    a (i + 1) ∙ one_reaches (in_span f (i + 1)) (is_covered spans (i + 1)) (r i g old)

-- A span that goes on past the base.
reach_span : (base : ℕ) (s : Span) (spans spans' : List Span) → base < s.to → Adds s spans spans' → ReachBase base spans → ReachBase base spans'
reach_span base s spans spans' l a r i g e =
    a (i + 1) ∙ both_reach (in_span s i) (is_covered spans i) (in_span s (i + 1)) (is_covered spans (i + 1)) (sym (a i) ∙ e)
    (goes_on s i (omega (arith, g, l))) (r i g)

reach_first : (base next : ℕ) (spans between : List Span) → AddsIfRoom (record { from = base; to = next }) spans between → ReachBase base spans
    → ReachBase base between
reach_first base next spans between (inl a) r = reach_one base next spans between a r
reach_first base next spans between (inr a) r = subst (ReachBase base) (sym a.0) r

pub reach_second : (base next : ℕ) (s : Span) (spans between spans' : List Span) → base ≤ next → next < s.to
    → AddsIfRoom (record { from = base; to = next }) spans between → AddsIfRoom s between spans' → ReachBase base spans → ReachBase base spans'
reach_second base next s spans between spans' h l a (inl b) r =
    reach_span base s between spans' (omega (arith, h, l)) b (reach_first base next spans between a r)
reach_second base next s spans between spans' h l a (inr b) r = subst (ReachBase base) (sym b.0) (reach_first base next spans between a r)

ends_past : (base : ℕ) (s : Span) (spans : List Span) → AreApart 0 (s ∷ spans) → ReachBase base (s ∷ spans) → base < s.to
ends_past base s spans a r = elim (cases_lt base s.to) [
  | inl l ↦ l
  | inr l ↦ absurd (
      let last : is_covered (s ∷ spans) (s.to - 1) ≡ true = covered_in s spans (s.to - 1) (omega (arith, a.1)) (omega (arith, a.1)) in
      let before : s.to - 1 < base = omega (arith, a.1, l) in
      let e : s.to - 1 + 1 ≡ s.to = omega (arith, a.1) in
      let there : is_covered (s ∷ spans) s.to ≡ true = subst (λ k. is_covered (s ∷ spans) k ≡ true) e (r (s.to - 1) before last) in
      let none : is_covered (s ∷ spans) s.to ≡ false = ap (λ c. if c then true else is_covered spans s.to) (past_it s s.to (omega arith))
      ∙ apart-before (s.to + 1) spans s.to a.2 (omega arith) in
      let z : true ≡ false = sym there ∙ none in
      cc)
]

-- ---- the spans from the base on

record IsCut (base : ℕ) (spans cut : List Span) : Type 0 where
  apart : AreApart base cut
  same : (i : ℕ) → base ≤ i → is_covered cut i ≡ is_covered spans i
  long : length cut ≡ length spans

lt_max : (base from i : ℕ) → base ≤ i → nat_lt i (max base from) ≡ nat_lt i from
lt_max base from i h = elim (cases_lt i from) [
  | inl l ↦ lt-ltb i (max base from) (omega (arith, l)) ∙ sym (lt-ltb i from l)
  | inr l ↦ le-ltb i (max base from) (omega (arith, l, h)) ∙ sym (le-ltb i from l)
]

cut_at : (base : ℕ) (spans : List Span) → AreApart 0 spans → ReachBase base spans → (cut : List Span) × IsCut base spans cut
cut_at base [] a r = ([], record { apart = tt; same = λ i h. refl; long = refl })
cut_at base (s ∷ spans) a r =
    let m : base < s.to = ends_past base s spans a r in (
      record { from = max base s.from; to = s.to } ∷ spans,
      record {
        apart = (omega arith, omega (arith, m, a.1), a.2);
        same = λ i h. ap (λ c. if (if c then false else nat_lt i s.to) then true else is_covered spans i) (lt_max base s.from i h);
        long = refl;
      },
    )

-- If they don't touch what is before the next place, they are past it.
all_past : (base next : ℕ) (spans : List Span) → AreApart 0 spans → ReachBase base spans → base ≤ next → IsAlone (record { from = base; to = next }) spans
    → AreApart (next + 1) spans
all_past base next [] a r h alone = tt
all_past base next (s ∷ spans) a r h alone =
    let m : base < s.to = ends_past base s spans a r in
    let past : next + 1 ≤ s.from = elim (cases_lt next s.from) [
      | inl l ↦ omega (arith, l)
      | inr l ↦ absurd (
          let k : ℕ = max s.from (base - 1) in
          let here : is_covered (s ∷ spans) (max s.from (base - 1)) ≡ true = covered_in s spans (max s.from (base - 1)) (omega arith) (omega (arith, m, a.1)) in
          let none : is_covered (s ∷ spans) (max s.from (base - 1)) ≡ false = alone (max s.from (base - 1)) (omega arith) (omega (arith, l, h)) in
          let z : true ≡ false = sym here ∙ none in
          cc)
    ] in
    (past, a.1, a.2)

same_if : (b x y : Bool) → (b ≡ false → x ≡ y) → (if b then true else x) ≡ (if b then true else y)
same_if true x y e = refl
same_if false x y e = e refl

-- ---- the table is full

pub fills_both : (b : Bool) (s t : Span) (n n1 n2 : Noted) → n1.is_full ≡ b → NotesMore s n n1
    → (n.is_full ≡ false → n1.is_full ≡ true → HasNoRoom s (spans_in n))
    → (n1.is_full ≡ false → n2.is_full ≡ true → HasNoRoom t (spans_in n1)) → n.is_full ≡ false → n2.is_full ≡ true → HasNoRoomFor s t (spans_in n)
fills_both true s t n n1 n2 e m f g o full = inl (f o e)
fills_both false s t n n1 n2 e m f g o full = inr (spans_in n1, n1.apart, (m e).1, g e full)

pub apart_noted : (o : Option Noted) → AreApart 0 (spans_noted o)
apart_noted None = tt
apart_noted (Some n) = n.apart

pub none_covered : (spans : List Span) → AreApart 0 spans → ((i : ℕ) → is_covered spans i ≡ false) → spans ≡ []
none_covered [] a z = refl
none_covered (s ∷ spans) a z = absurd (let e : true ≡ false = sym (covered_in s spans s.from (omega arith) a.1) ∙ z s.from in cc)

-- The segment touches no span from the base on.
alone_from : (base : ℕ) (s : Span) (spans cut : List Span) → IsCut base spans cut → IsAlone s spans → IsAlone s cut
alone_from base s spans cut c a i g h = elim (cases_lt i base) [
  | inl l ↦ apart-before base cut i c.apart l
  | inr l ↦ c.same i l ∙ a i g h
]

-- From the next place on there is none of what is before.
between_past : (base next : ℕ) (spans between : List Span) → AddsIfRoom (record { from = base; to = next }) spans between → (i : ℕ) → next ≤ i
    → is_covered between i ≡ is_covered spans i
between_past base next spans between (inl a) i h = a i ∙ ap (λ c. if c then true else is_covered spans i) (past_it (record { from = base; to = next }) i h)
between_past base next spans between (inr a) i h = ap (λ x. is_covered x i) a.0

pub noted_if_room : (base next : ℕ) (s : Span) (o o' : Option Noted) (between : List Span) → ReachBase base (spans_noted o) → base ≤ next
    → AreApart 0 between → AddsIfRoom (record { from = base; to = next }) (spans_noted o) between → AddsIfRoom s between (spans_noted o')
    → IsNotedIfRoom base next s o o'
noted_if_room base next s o o' between r h a first (inl b) =
    inl (λ i g. b i ∙ ap (λ c. if in_span s i then true else c) (between_past base next (spans_noted o) between first i g))
noted_if_room base next s o o' between r h a (inl f) (inr b) =
    let cut = cut_at base between a (reach_one base next (spans_noted o) between f r) in
    let room : LacksRoomAmong (is_covered (spans_noted o)) base s next = (
      cut.0,
      cut.1.long ∙ b.1.0,
      alone_from base s between cut.0 cut.1 b.1.1,
      inr (record {
        apart = cut.1.apart;
        covered = λ i g. cut.1.same i g ∙ f i ∙ ap (λ x. if x then true else is_covered (spans_noted o) i) (from_it (record { from = base; to = next }) i g);
      }),
    ) in
    inr (room, λ i g. ap (λ x. is_covered x i) b.0 ∙ between_past base next (spans_noted o) between (inl f) i g)
noted_if_room base next s o o' between r h a (inr f) (inr b) =
    let past = all_past base next (spans_noted o) (apart_noted o) r h f.1.1 in
    let room : LacksRoomAmong (is_covered (spans_noted o)) base s next = (
      between,
      b.1.0,
      b.1.1,
      inl (record {
        apart = subst (AreApart next) (sym f.0) (apart-less next (next + 1) (spans_noted o) (omega arith) past);
        covered = λ i _. ap (λ x. is_covered x i) f.0;
      }),
    ) in
    inr (room, λ i g. ap (λ x. is_covered x i) b.0 ∙ between_past base next (spans_noted o) between (inr f) i g)

pub no_room : (is_such : ℕ → Bool) (base next : ℕ) (s : Span) (spans : List Span) → AreApart 0 spans → ReachBase base spans
    → ((i : ℕ) → next ≤ i → is_covered spans i ≡ is_such i) → base ≤ next → HasNoRoomFor (record { from = base; to = next }) s spans
    → LacksRoom is_such base s next
no_room is_such base next s spans a r c h (inl w) = (
  spans,
  w.0,
  inl (
    sym (c next (omega arith)) ∙ w.1 next (omega (arith, h)) (omega arith),
    record { apart = apart-less next (next + 1) spans (omega arith) (all_past base next spans a r h w.1); covered = c },
  ),
)
no_room is_such base next s spans a r c h (inr w) =
    let cut = cut_at base w.0 w.1 (reach_one base next spans w.0 w.2 r) in (
      cut.0,
      cut.1.long ∙ w.3.0,
      inr (
        record {
          apart = cut.1.apart;
          covered = λ i b. cut.1.same i b ∙ w.2 i ∙ ap (λ x. if x then true else is_covered spans i) (from_it (record { from = base; to = next }) i b)
              ∙ same_if (nat_lt i next) (is_covered spans i) (is_such i) (λ e. c i (ltb-false i next e));
        },
        alone_from base s w.0 cut.0 cut.1 w.3.1,
      ),
    )
