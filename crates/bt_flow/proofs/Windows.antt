-- What a window has taken after several calls.
use Rattle.std.proofs.Common.{◌≡◌, ℕ, ◌+◌, ◌≤◌, List, [], ◌∷◌, ◌++◌, length, take, drop, length-take, length-drop, length-append, append_assoc, append-nil}
use Rattle.std.proofs.Common.{Option, refl, sym, ap, subst, ◌∙◌, arith, inl, inr, get_or, ◌<◌, ◌-◌}
use Rattle.std.specs.Prelude.{Some, None}
use Rattle.std.proofs.lemmas.Option.{slice_get-get_or}
use Rattle.std.proofs.lemmas.Bool.{cases_lt}
use Rattle.bt_tcp.specs.declared.rings.Put.{Put}
use Rattle.bt_tcp.specs.declared.rings.Put.TheVariants.{Taken, Full}
use Rattle.bt_tcp.specs.Segments.{Segment, IsStream, byte_in, or_else}
use Rattle.bt_tcp.specs.Windows.{IsTaken, IsPut, IsPutOf, TakesAny, TakesOneMore, GoesOn, HandsOutMore, EndsStream}
use Rattle.bt_tcp.proofs.Bytes.{byte_in-at, byte_in-before}
use Rattle.bt_tcp.proofs.RingProofs.{known-past, ring-none}
use Rattle.bt_tcp.proofs.Taken.{taken_on}
use Rattle.bt_flow.specs.Memory.{capacity_of, seen}
use Rattle.bt_flow.specs.Views.{IsNear, Places, HandsSome, HandsOut, PassesHole, TakesIn}
use Rattle.bt_flow.specs.declared.window.Window.{Window}

-- No byte is kept past 15 MiB.
abbrev pub IsKeptWithin : (ℕ → Option ℕ) → Type 0
IsKeptWithin a = (k : ℕ) → 15728640 ≤ k → a k ≡ None

-- A window has no byte past its places.
pub kept_within : (w : Window) → capacity_of w ≤ 15728640 → IsKeptWithin (seen w)
kept_within w m k h = ring-none w.known.items w.ahead.items w.ring.head k (known-past w.known.items w.ring.head k (omega (arith, m, h)))

no_fresh : (s : Segment) (n : ℕ) (a : ℕ → Option ℕ) (fresh : List ℕ) (n' : ℕ) (a' : ℕ → Option ℕ) → IsPut s n a fresh n' a' → n < s.place → length fresh ≡ 0
no_fresh s n a [] n' a' p h = refl
no_fresh s n a (b ∷ fresh) n' a' p h = absurd (
    let at : n + 0 ≡ n = omega arith in
    let e : None ≡ Some b = sym (byte_in-before s n h) ∙ ap (byte_in s) (sym at) ∙ (p.new 0 (omega arith)).1 in
    cc)

not_none : (o : Option ℕ) (b : ℕ) → or_else o (Some b) ≡ None → ⊥
not_none None b e = absurd (cc)
not_none (Some x) b e = absurd (cc)

-- If no byte is kept past 15 MiB, none of the segment's is there.
near_put : (s : Segment) (n : ℕ) (a : ℕ → Option ℕ) (fresh : List ℕ) (n' : ℕ) (a' : ℕ → Option ℕ) → IsPut s n a fresh n' a' → IsKeptWithin a'
    → IsNear s.place (length s.bytes) n
near_put s n a fresh n' a' p w some most = elim (cases_lt n s.place) [
  | inl after ↦ elim (cases_lt (n + 15728640) (s.place + length s.bytes)) [
    | inl far ↦ absurd (
        let same : n' ≡ n = omega (arith, p.next_is, no_fresh s n a fresh n' a' p after) in
        let j : ℕ = length s.bytes - 1 in
        let k : ℕ = s.place + j - n in
        let at : n' + k ≡ s.place + j = omega (arith, same, after) in
        let there : byte_in s (n' + k) ≡ Some (get_or s.bytes j 0)
        = ap (byte_in s) at ∙ byte_in-at s j ∙ slice_get-get_or s.bytes j 0 (omega (arith, some)) in
        not_none (a (length fresh + k)) (get_or s.bytes j 0)
        (ap (or_else (a (length fresh + k))) (sym there) ∙ sym (p.rest k) ∙ w k (omega (arith, far, some, after))))
    | inr near ↦ near
  ]
  | inr before ↦ omega (arith, before, most)
]

-- a put as the window is
pub places_at_once : (at : ℕ) (bytes : List ℕ) (n : ℕ) (a : ℕ → Option ℕ) (capacity from len n' : ℕ) (a' : ℕ → Option ℕ) → IsKeptWithin a'
    → IsPutOf capacity at bytes n a (Taken from len) n' a' → TakesOneMore at bytes n a (Taken from len) n' a' → Places at bytes n a (Taken from len) n' a'
places_at_once at bytes n a capacity from len n' a' w p t =
    let e : length (take len (drop from bytes)) ≡ len = omega (arith, p.0, length-take len (drop from bytes), length-drop from bytes) in
    (p.0, omega (arith, p.1.next_is, e), near_put (record { place = at; bytes = bytes }) n a (take len (drop from bytes)) n' a' p.1 w, t)

-- a put after room was made
pub places_after : (at : ℕ) (bytes : List ℕ) (n : ℕ) (a : ℕ → Option ℕ) (n1 : ℕ) (a1 : ℕ → Option ℕ) (put : Put) (n2 : ℕ) (a2 : ℕ
    → Option ℕ) (capacity : ℕ) → n1 ≡ n → IsKeptWithin a2
    → (at + length bytes ≤ n + 15728640 → at + length bytes ≤ n1 + capacity)
    → GoesOn n a n1 a1 → IsPutOf capacity at bytes n1 a1 put n2 a2 → TakesOneMore at bytes n1 a1 put n2 a2 → Places at bytes n a put n2 a2
places_after at bytes n a n1 a1 (Taken from len) n2 a2 capacity e w room goes p t =
    let l : length (take len (drop from bytes)) ≡ len = omega (arith, p.0, length-take len (drop from bytes), length-drop from bytes) in (
      p.0,
      omega (arith, e, p.1.next_is, l),
      subst (IsNear at (length bytes)) e (near_put (record { place = at; bytes = bytes }) n1 a1 (take len (drop from bytes)) n2 a2 p.1 w),
      λ segs base out h. t segs base out (goes segs base out h),
    )
places_after at bytes n a n1 a1 Full n2 a2 capacity e w room goes p t =
    (elim (cases_lt (n + 15728640) (at + length bytes)) [ inl l ↦ l | inr r ↦ absurd (omega (arith, room r, p.0)) ], omega (arith, e, p.1))

pub hands_none : (n : ℕ) (a : ℕ → Option ℕ) (given : List ℕ) → HandsSome n a given n a given
hands_none n a given = record {
  more = [];
  is = sym (append-nil given);
  next_is = omega arith;
  taken = λ segs base out h. subst (λ x. IsTaken segs base x n a) (sym (append-nil out)) h;
}

abbrev pub hands_more : (n : ℕ) (a : ℕ → Option ℕ) (given : List ℕ) (n1 : ℕ) (a1 : ℕ → Option ℕ) (given1 : List ℕ) (n2 : ℕ) (a2 : ℕ
    → Option ℕ) (given2 part : List ℕ) → HandsSome n a given n1 a1 given1
    → n2 ≡ n1 + length part → HandsOutMore n1 a1 part n2 a2 → given2 ≡ given1 ++ part → HandsSome n a given n2 a2 given2
hands_more n a given n1 a1 given1 n2 a2 given2 part s e t g = record {
  more = s.more ++ part;
  is = g ∙ ap (λ x. x ++ part) s.is ∙ append_assoc given s.more part;
  next_is = omega (arith, s.next_is, e, length-append s.more part);
  taken = λ segs base out h. subst (λ x. IsTaken segs base x n2 a2) (append_assoc out s.more part) (t segs base (out ++ s.more) (s.taken segs base out h));
}

pub hands_out : (n : ℕ) (a : ℕ → Option ℕ) (given : List ℕ) (n1 : ℕ) (a1 : ℕ → Option ℕ) (given1 : List ℕ) (n2 : ℕ) (a2 : ℕ
    → Option ℕ) (part : List ℕ) → HandsSome n a given n1 a1 given1
    → n2 ≡ n1 + length part → HandsOutMore n1 a1 part n2 a2 → EndsStream n1 a1 part → part ≡ [] → HandsOut n a given n2 a2 given1
hands_out n a given n1 a1 given1 n2 a2 part s e t ends z =
    let f : given1 ≡ given1 ++ part = sym (ap (λ x. given1 ++ x) z ∙ append-nil given1) in
    record {
      some = hands_more n a given n1 a1 given1 n2 a2 given1 part s e t f;
      stream = λ segs base out h. subst (λ x. IsStream segs base x) (append_assoc out s.more part) (ends segs base (out ++ s.more) (s.taken segs base out h));
    }

-- A segment was put, and after its fresh bytes comes what is ready then.
pub takes_in : (at : ℕ) (bytes : List ℕ) (n : ℕ) (a : ℕ → Option ℕ) (from len n1 : ℕ) (a1 : ℕ → Option ℕ) (later : List ℕ) (n2 : ℕ) (a2 : ℕ
    → Option ℕ) (later' : List ℕ)
    → Places at bytes n a (Taken from len) n1 a1 → (o : HandsOut n1 a1 later n2 a2 later')
    → TakesIn at bytes n a (take len (drop from bytes) ++ o.some.more) n2 a2
takes_in at bytes n a from len n1 a1 later n2 a2 later' p o =
    let s : Segment = record { place = at; bytes = bytes } in
    let fresh : List ℕ = take len (drop from bytes) in
    let l : length fresh ≡ len = omega (arith, p.0, length-take len (drop from bytes), length-drop from bytes) in
    record {
      next_is = omega (arith, p.1, o.some.next_is, l, length-append fresh o.some.more);
      near = p.2;
      taken = λ segs base out h. (
          let h1 = p.3 segs base out h in (
            subst (λ x. IsTaken (segs ++ s ∷ []) base x n2 a2) (append_assoc out fresh o.some.more) (o.some.taken (segs ++ s ∷ []) base (out ++ fresh) h1),
            subst (λ x. IsStream (segs ++ s ∷ []) base x) (append_assoc out fresh o.some.more) (o.stream (segs ++ s ∷ []) base (out ++ fresh) h1),
          ));
    }

-- A window that was full is the same.
pub goes_same : (n : ℕ) (a : ℕ → Option ℕ) (n1 : ℕ) (a1 : ℕ → Option ℕ) → n1 ≡ n → ((k : ℕ) → a1 k ≡ a k) → GoesOn n a n1 a1
goes_same n a n1 a1 e f segs base out h = subst (λ x. IsTaken segs base out x a1) (sym e) (taken_on segs base out n a a1 f h)

-- The window is another one now, with the same bytes ahead.
pub takes_in_same : (at : ℕ) (bytes : List ℕ) (n : ℕ) (a : ℕ → Option ℕ) (more : List ℕ) (n1 : ℕ) (a1 : ℕ → Option ℕ) (n2 : ℕ) (a2 : ℕ
    → Option ℕ) → n2 ≡ n1 → ((k : ℕ) → a2 k ≡ a1 k) → TakesIn at bytes n a more n1 a1 → TakesIn at bytes n a more n2 a2
takes_in_same at bytes n a more n1 a1 n2 a2 e f t =
    let s : Segment = record { place = at; bytes = bytes } in
    record {
      next_is = e ∙ t.next_is;
      near = t.near;
      taken = λ segs base out h. (
          let both = t.taken segs base out h in
          (goes_same n1 a1 n2 a2 e f (segs ++ s ∷ []) base (out ++ more) both.0, both.1));
    }

-- Places were passed, and after them comes what is ready then.
pub passes_in : (count n : ℕ) (a : ℕ → Option ℕ) (n1 : ℕ) (a1 : ℕ → Option ℕ) (later : List ℕ) (n2 : ℕ) (a2 : ℕ → Option ℕ) (later' : List ℕ)
    (n3 : ℕ) (a3 : ℕ → Option ℕ) → n1 ≡ n + count → TakesAny count n a n1 a1 → HandsOut n1 a1 later n2 a2 later' → n3 ≡ n2
    → ((k : ℕ) → a3 k ≡ a2 k) → PassesHole count n a later n3 a3 later'
passes_in count n a n1 a1 later n2 a2 later' n3 a3 next t o e f = record {
  more = o.some.more;
  is = o.some.is;
  taken = λ fill len. (
      let s : Segment = record { place = n; bytes = fill } in
      takes_in_same n fill n a (fill ++ o.some.more) n2 a2 n3 a3 e f (record {
        next_is = omega (arith, next, len, o.some.next_is, length-append fill o.some.more);
        near = λ _ m. omega (arith, m);
        taken = λ segs base out h. (
            let h1 = t segs base out fill len h in (
              subst (λ x. IsTaken (segs ++ s ∷ []) base x n2 a2) (append_assoc out fill o.some.more) (o.some.taken (segs ++ s ∷ []) base (out ++ fill) h1),
              subst (λ x. IsStream (segs ++ s ∷ []) base x) (append_assoc out fill o.some.more) (o.stream (segs ++ s ∷ []) base (out ++ fill) h1),
            ));
      }));
}
