-- What is noted after a segment.
use Rattle.std.proofs.Common.{◌≡◌, ℕ, ◌+◌, ◌<◌, ◌≤◌, max, Bool, true, false, List, [], ◌∷◌, ◌++◌, length, refl, sym, ap, subst, ◌∙◌, arith, inl, inr}
use Rattle.std.specs.Prelude.{Option, Some, None, is_some, if◌then◌else◌}
use Rattle.std.proofs.lemmas.Grind.{common_steps}
use Rattle.std.proofs.lemmas.Bool.{cases_lt}
use Rattle.std.proofs.lemmas.Option.{gets}
use Rattle.bt_tcp.specs.declared.covered.Span.{Span}
use Rattle.bt_tcp.specs.Covered.{in_span, is_covered}
use Rattle.bt_tcp.specs.Segments.{Segment, or_else, byte_in, byte_at}
use Rattle.bt_tcp.proofs.Bytes.{byte_at-push}
use Rattle.bt_flow.specs.declared.noted.Noted.{Noted}
use Rattle.bt_flow.specs.Notes.{spans_in, spans_noted, AddsSome, AddsIfRoom, AddsBothIfRoom, AddsBoth, NotesMore, NotesBoth, NotesOne, FillsOne}
use Rattle.bt_flow.specs.Notes.{HasNoRoomFor, AreNoted, GoesUpTo, IsNotedFrom, is_full}
use Rattle.bt_flow.specs.Flows.{NotesIfRoom}
use Rattle.bt_flow.proofs.Filled.{before_it, both_reach, from_it, one_reaches, reach_second, noted_if_room, none_covered}
use Rattle.bt_flow.proofs.Told.{not_noted}

span_past : (from to i : ℕ) → to ≤ i → in_span (record { from = from; to = to }) i ≡ false
span_past from to i h = grind (arith, common_steps)

pub notes_both : (s t : Span) (n n1 n2 : Noted) → NotesMore s n n1 → NotesMore t n1 n2 → NotesBoth s t n n2
notes_both s t n n1 n2 m1 m2 full =
    let r2 = m2 full in
    let r1 = m1 r2.0 in
    (r1.0, λ i. r2.1 i ∙ ap (λ b. if in_span t i then true else b) (r1.1 i))

-- From the next place on there is none of what is before.
both_past : (base next from to : ℕ) (spans spans' : List Span)
    → AddsBoth (record { from = base; to = next }) (record { from = from; to = to }) spans spans' → (i : ℕ) → next ≤ i
    → is_covered spans' i ≡ (if in_span (record { from = from; to = to }) i then true else is_covered spans i)
both_past base next from to spans spans' a i h =
    a i ∙ ap (λ b. if in_span (record { from = from; to = to }) i then true else if b then true else is_covered spans i) (span_past base next i h)

pub notes_more : (base next from to : ℕ) (n n1 : Noted) → NotesBoth (record { from = base; to = next }) (record { from = from; to = to }) n n1
    → NotesOne next (record { from = from; to = to }) (Some n) (Some n1)
notes_more base next from to n n1 m full =
    let r = m full in (r.0, both_past base next from to (spans_in n) (spans_in n1) r.1)

pub notes_first : (base next from to : ℕ) (n n1 : Noted) → ((i : ℕ) → is_covered (spans_in n) i ≡ false)
    → NotesBoth (record { from = base; to = next }) (record { from = from; to = to }) n n1
    → NotesOne next (record { from = from; to = to }) None (Some n1)
notes_first base next from to n n1 z m full =
    let a : AddsBoth (record { from = base; to = next }) (record { from = from; to = to }) [] (spans_in n1)
    = subst (λ x. AddsBoth (record { from = base; to = next }) (record { from = from; to = to }) x (spans_in n1))
    (none_covered (spans_in n) n.apart z) (m full).1 in
    (refl, both_past base next from to [] (spans_in n1) a)

pub fills_first : (base next from to : ℕ) (n n1 : Noted) → n.is_full ≡ false → ((i : ℕ) → is_covered (spans_in n) i ≡ false)
    → (n.is_full ≡ false → n1.is_full ≡ true → HasNoRoomFor (record { from = base; to = next }) (record { from = from; to = to }) (spans_in n))
    → FillsOne base next (record { from = from; to = to }) None (Some n1)
fills_first base next from to n n1 o z f _ full =
    subst (HasNoRoomFor (record { from = base; to = next }) (record { from = from; to = to })) (none_covered (spans_in n) n.apart z) (f o full)

-- nothing is ahead
pub notes_none : (next from to : ℕ) (o : Option Noted) → to ≤ next → NotesOne next (record { from = from; to = to }) o o
notes_none next from to o e full = (
  full,
  λ i h. (
      let l : to ≤ i = omega (arith, e, h) in
      sym (ap (λ b. if b then true else is_covered (spans_noted o) i) (span_past from to i l))),
)

in_bytes : (at : ℕ) (bytes : List ℕ) (i : ℕ) → is_some (byte_in (record { place = at; bytes = bytes }) i) ≡ in_span (record {
  from = at;
  to
      = at + length bytes;
}) i
unfolding byte_in
in_bytes at bytes i = elim (cases_lt i at) [
  | inl a ↦ grind (arith, common_steps)
  | inr a ↦ grind (arith, common_steps, gets)
]

either : (x y : Option ℕ) (b : Bool) → is_some y ≡ b → (if b then true else is_some x) ≡ is_some (or_else x y)
either (Some x) y true e = refl
either (Some x) y false e = refl
either None y true e = sym e
either None y false e = sym e

-- A place is captured now if it is in the segment or was before.
pub captured_more : (segs : List Segment) (at : ℕ) (bytes : List ℕ) (i : ℕ)
    → (if in_span (record { from = at; to = at + length bytes }) i then true else is_some (byte_at segs i))
    ≡ is_some (byte_at (segs ++ record { place = at; bytes = bytes } ∷ []) i)
captured_more segs at bytes i =
    let s : Segment = record { place = at; bytes = bytes } in
    either (byte_at segs i) (byte_in s i) (in_span (record { from = at; to = at + length bytes }) i) (in_bytes at bytes i)
    ∙ sym (ap is_some (byte_at-push segs s i))

if_more : (b c d : Bool) → (c ≡ true → d ≡ true) → (if b then true else c) ≡ true → (if b then true else d) ≡ true
if_more true c d f e = refl
if_more false c d f e = f e

-- ---- with a full table too

adds_some : (s : Span) (spans spans' : List Span) → AddsIfRoom s spans spans' → AddsSome 0 s spans spans'
adds_some s spans spans' (inl a) = record {
  stays = λ i _ e. a i ∙ one_reaches (in_span s i) (is_covered spans i) e;
  only = λ i _ e. sym (a i) ∙ e;
}
adds_some s spans spans' (inr a) = record {
  stays = λ i _ e. ap (λ x. is_covered x i) a.0 ∙ e;
  only = λ i _ e. one_reaches (in_span s i) (is_covered spans i) (sym (ap (λ x. is_covered x i) a.0) ∙ e);
}

-- From the next place on there is none of what is before.
some_past : (base next from to : ℕ) (spans spans' : List Span)
    → AddsBothIfRoom (record { from = base; to = next }) (record { from = from; to = to }) spans spans'
    → AddsSome next (record { from = from; to = to }) spans spans'
some_past base next from to spans spans' a =
    let f : Span = record { from = base; to = next } in
    let s : Span = record { from = from; to = to } in
    let first = adds_some f spans a.0 a.2 in
    let second = adds_some s a.0 spans' a.3 in
    record {
      stays = λ i h e. second.stays i (omega arith) (first.stays i (omega arith) e);
      only = λ i h e. if_more (in_span s i) (is_covered a.0 i) (is_covered spans i)
          (λ x. sym (ap (λ b. if b then true else is_covered spans i) (span_past base next i h)) ∙ first.only i (omega arith) x)
          (second.only i (omega arith) e);
    }

pub notes_if_room : (base next from to : ℕ) (o o' : Option Noted) → next < to
    → AddsBothIfRoom (record { from = base; to = next }) (record { from = from; to = to }) (spans_noted o) (spans_noted o')
    → NotesIfRoom base next (record { from = from; to = to }) o o'
notes_if_room base next from to o o' l a = record {
  some = some_past base next from to (spans_noted o) (spans_noted o') a;
  reach = λ h. reach_second base next (record { from = from; to = to }) (spans_noted o) a.0 (spans_noted o') h l a.2 a.3;
  room = λ h r. noted_if_room base next (record { from = from; to = to }) o o' a.0 r h a.1 a.2 a.3;
}

pub first_if_room : (base next from to : ℕ) (n n1 : Noted) → next < to → ((i : ℕ) → is_covered (spans_in n) i ≡ false)
    → AddsBothIfRoom (record { from = base; to = next }) (record { from = from; to = to }) (spans_in n) (spans_in n1)
    → NotesIfRoom base next (record { from = from; to = to }) None (Some n1)
first_if_room base next from to n n1 l z a =
    notes_if_room base next from to None (Some n1) l
    (subst (λ x. AddsBothIfRoom (record { from = base; to = next }) (record { from = from; to = to }) x (spans_in n1))
    (none_covered (spans_in n) n.apart z) a)

-- nothing is ahead
pub same_if_room : (base next from to : ℕ) (o : Option Noted) → to ≤ next → NotesIfRoom base next (record { from = from; to = to }) o o
same_if_room base next from to o l = record {
  some = record { stays = λ i _ e. e; only = λ i _ e. one_reaches (in_span (record { from = from; to = to }) i) (is_covered (spans_noted o) i) e };
  reach = λ h r. r;
  room = λ h r. inl (λ i g. sym (ap (λ b. if b then true else is_covered (spans_noted o) i) (span_past from to i (omega (arith, l, g)))));
}

-- ---- from where on a segment is noted

none_before : (from to i : ℕ) → i < from → in_span (record { from = from; to = to }) i ≡ false
none_before from to i h = before_it (record { from = from; to = to }) i h

-- Of two spans with one end both have a place that is past both starts, and neither has one before both.
span_alike : (from at to i : ℕ) → at ≤ from → from ≤ max at i → in_span (record { from = from; to = to }) i ≡ in_span (record { from = at; to = to }) i
span_alike from at to i h f = elim (cases_lt i at) [
  | inl l ↦ none_before from to i (omega (arith, h, l)) ∙ sym (none_before at to i l)
  | inr l ↦ from_it (record { from = from; to = to }) i (omega (arith, f, l)) ∙ sym (from_it (record { from = at; to = to }) i l)
]

span_within : (from at to i : ℕ) → at ≤ from → in_span (record { from = from; to = to }) i ≡ true → in_span (record { from = at; to = to }) i ≡ true
span_within from at to i h e = elim (cases_lt i from) [
  | inl l ↦ absurd (let z : true ≡ false = sym e ∙ none_before from to i l in cc)
  | inr l ↦ sym (span_alike from at to i h (omega (arith, l))) ∙ e
]

starts_after : (was is : Bool) (at «end» next : ℕ) (o : Option Noted) (from : ℕ) → IsNotedFrom was is at «end» next o from → at ≤ from
starts_after was false at «end» next o from f = omega (arith, f)
starts_after false true at «end» next o from f = omega (arith, f)
starts_after true true at «end» next o from f = omega (arith, f.2)

neither_true : (b c : Bool) → b ≡ false → (if b then true else c) ≡ true → c ≡ true
neither_true true c e h = absurd (cc)
neither_true false c e h = h

-- Of a gap that was final: a place that is noted now is past it, and so is one before that place that was noted.
record IsPast (next : ℕ) (o : Option Noted) (past j : ℕ) : Type 0 where
  after : past ≤ j
  was : ℕ
  least : next ≤ was
  most : was ≤ j
  noted : is_covered (spans_noted o) was ≡ true

past_gap : (at «end» next : ℕ) (o : Option Noted) (past from j : ℕ) → GoesUpTo next «end» o past → from ≡ max at past → next ≤ j
    → (if in_span (record { from = from; to = «end» }) j then true else is_covered (spans_noted o) j) ≡ true → IsPast next o past j
past_gap at «end» next o past from j g f h e =
    let there : is_covered (spans_noted o) j ≡ true → IsPast next o past j = λ c. record {
      after = elim (cases_lt j past) [ inl m ↦ absurd (let z : true ≡ false = sym c ∙ g.missing j h m in cc) | inr m ↦ m ];
      was = j;
      least = h;
      most = omega arith;
      noted = c;
    } in
    let span : Span = record { from = from; to = «end» } in
    elim (cases_lt j from) [
      | inl l ↦ there (neither_true (in_span span j) (is_covered (spans_noted o) j) (none_before from «end» j l) e)
      | inr l ↦ elim (cases_lt j «end») [
        | inl m ↦ record {
          after = omega (arith, f, l);
          was = past;
          least = (let n = g.after (omega (arith, h, m)) in omega (arith, n));
          most = omega (arith, f, l);
          noted = g.ends (omega (arith, f, l, m));
        }
        | inr m ↦ there (neither_true (in_span span j) (is_covered (spans_noted o) j) (span_past from «end» j m) e)
      ]
    ]

-- the next place, and the segments with one more
pub record IsNextOf (was is : Bool) (segs segs' : List Segment) (next next' : ℕ) : Type 0 where
  -- Unless a gap is final, it isn't captured. It wasn't before the segment that makes the gap final.
  pub ends : is ≡ false → is_some (byte_at segs' next') ≡ false
  pub falls : was ≡ false → is ≡ true → is_some (byte_at segs next') ≡ false
  pub stays : was ≡ true → (is ≡ true) × (next' ≡ next)

noted_alike : (segs : List Segment) (at : ℕ) (bytes : List ℕ) (o o' : Option Noted) (from i : ℕ)
    → is_covered (spans_noted o') i ≡ (if in_span (record { from = from; to = at + length bytes }) i then true else is_covered (spans_noted o) i)
    → at ≤ from → from ≤ max at i → is_covered (spans_noted o) i ≡ is_some (byte_at segs i)
    → is_covered (spans_noted o') i ≡ is_some (byte_at (segs ++ record { place = at; bytes = bytes } ∷ []) i)
noted_alike segs at bytes o o' from i r a f c =
    r ∙ ap (λ b. if b then true else is_covered (spans_noted o) i) (span_alike from at (at + length bytes) i a f)
    ∙ ap (λ b. if in_span (record { from = at; to = at + length bytes }) i then true else b) c ∙ captured_more segs at bytes i

only_more : (segs : List Segment) (at : ℕ) (bytes : List ℕ) (o o' : Option Noted) (next from i : ℕ) → at ≤ from
    → AddsSome next (record { from = from; to = at + length bytes }) (spans_noted o) (spans_noted o')
    → (is_covered (spans_noted o) i ≡ true → is_some (byte_at segs i) ≡ true) → next ≤ i → is_covered (spans_noted o') i ≡ true
    → is_some (byte_at (segs ++ record { place = at; bytes = bytes } ∷ []) i) ≡ true
only_more segs at bytes o o' next from i f a c h e =
    sym (captured_more segs at bytes i)
    ∙ both_reach (in_span (record { from = from; to = at + length bytes }) i) (is_covered (spans_noted o) i)
    (in_span (record { from = at; to = at + length bytes }) i) (is_some (byte_at segs i)) (a.only i h e) (span_within from at (at + length bytes) i f) c

-- A place that a segment isn't noted at, and that wasn't noted, isn't now.
not_here : (at to next : ℕ) (o o' : Option Noted) (from : ℕ) → AddsSome next (record { from = from; to = to }) (spans_noted o) (spans_noted o')
    → in_span (record { from = from; to = to }) next ≡ false → is_covered (spans_noted o) next ≡ false → is_covered (spans_noted o') next ≡ false
not_here at to next o o' from a s c = not_noted (is_covered (spans_noted o') next) (is_covered (spans_noted o) next)
    (λ e. neither_true (in_span (record { from = from; to = to }) next) (is_covered (spans_noted o) next) s (a.only next (omega arith) e)) c

pub noted_more : (was is : Bool) (segs : List Segment) (at : ℕ) (bytes : List ℕ) (base next next' : ℕ) (o o' : Option Noted) (from : ℕ)
    → next ≤ next' → base ≤ next' → IsNextOf was is segs (segs ++ record { place = at; bytes = bytes } ∷ []) next next'
    → AreNoted was segs base next o → IsNotedFrom was is at (at + length bytes) next' o from
    → NotesOne next' (record { from = from; to = at + length bytes }) o o'
    → NotesIfRoom base next' (record { from = from; to = at + length bytes }) o o'
    → AreNoted is (segs ++ record { place = at; bytes = bytes } ∷ []) base next' o'
noted_more true false segs at bytes base next next' o o' from l b k n f m a = absurd (let z = (k.stays refl).0 in cc)
noted_more false false segs at bytes base next next' o o' from l b k n f m a =
    let only : (i : ℕ) → next' ≤ i → is_covered (spans_noted o') i ≡ true
    → is_some (byte_at (segs ++ record { place = at; bytes = bytes } ∷ []) i) ≡ true = λ i h e.
    only_more segs at bytes o o' next' from i (omega (arith, f)) a.some (n.only i (omega (arith, l, h))) h e in
    let all : is_full o' ≡ false → (i : ℕ) → next' ≤ i
    → is_covered (spans_noted o') i ≡ is_some (byte_at (segs ++ record { place = at; bytes = bytes } ∷ []) i) = λ full i h.
    noted_alike segs at bytes o o' from i ((m full).1 i h) (omega (arith, f)) (omega (arith, f))
    (n.all refl (m full).0 i (omega (arith, l, h))) in
    record {
      only = only;
      all = λ _ full i h. all full i h;
      past = λ full i j h g e. all full i (omega (arith, h, g));
      here = not_noted (is_covered (spans_noted o') next') (is_some (byte_at (segs ++ record { place = at; bytes = bytes } ∷ []) next'))
          (only next' (omega arith)) (k.ends refl);
      reach = a.reach b n.reach;
    }
noted_more false true segs at bytes base next next' o o' from l b k n f m a =
    let here : is_covered (spans_noted o') next' ≡ false = not_here at (at + length bytes) next' o o' from a.some
    (none_before from (at + length bytes) next' (omega (arith, f)))
    (not_noted (is_covered (spans_noted o) next') (is_some (byte_at segs next')) (n.only next' l) (k.falls refl refl)) in
    record {
      only = λ i h e. only_more segs at bytes o o' next' from i (omega (arith, f)) a.some (n.only i (omega (arith, l, h))) h e;
      all = λ x. absurd (cc);
      past = λ full i j h g e. elim (cases_lt next' i) [
        | inl p ↦ noted_alike segs at bytes o o' from i ((m full).1 i (omega (arith, h, g))) (omega (arith, f)) (omega (arith, f, p))
            (n.all refl (m full).0 i (omega (arith, l, h, g)))
        | inr p ↦ absurd (
            let same : j ≡ next' = omega (arith, h, g, p) in
            let z : true ≡ false = sym e ∙ ap (is_covered (spans_noted o')) same ∙ here in
            cc)
      ];
      here = here;
      reach = a.reach b n.reach;
    }
noted_more true true segs at bytes base next next' o o' from l b k n f m a =
    let past : ℕ = f.0 in
    let same : next' ≡ next = (k.stays refl).1 in
    record {
      only = λ i h e. only_more segs at bytes o o' next' from i (omega (arith, f.2)) a.some (n.only i (omega (arith, l, h))) h e;
      all = λ x. absurd (cc);
      past = λ full i j h g e. (
          let p = past_gap at (at + length bytes) next' o f.0 from j f.1 f.2 h (sym ((m full).1 j h) ∙ e) in
          noted_alike segs at bytes o o' from i ((m full).1 i (omega (arith, h, g))) (omega (arith, f.2)) (omega (arith, f.2, p.after, g))
          (n.past (m full).0 i p.was (omega (arith, p.least, same)) (omega (arith, p.most, g)) p.noted));
      here = not_here at (at + length bytes) next' o o' from a.some
          (elim (cases_lt next' (at + length bytes)) [
            | inl q ↦ (let r = f.1.after q in none_before from (at + length bytes) next' (omega (arith, f.2, r)))
            | inr q ↦ span_past from (at + length bytes) next' q
          ]) (ap (is_covered (spans_noted o)) same ∙ n.here);
      reach = a.reach b n.reach;
    }
