-- A window with bytes that wait far after the next one.
use Rattle.std.proofs.Common.{◌≡◌, ◌≢◌, ℕ, zero, suc, ◌+◌, ◌-◌, ◌<◌, ◌≤◌, List, [], ◌∷◌, ◌++◌, length, replicate, slice_get, get_or, length-append, append_assoc, refl, sym, ap, subst, ◌∙◌, arith, Option, inl, inr}
use Rattle.std.proofs.lemmas.List.{length-replicate}
use Rattle.std.specs.Prelude.{Some, None}
use Rattle.std.proofs.lemmas.Bool.{cases_lt, cases_order}
use Rattle.std.proofs.lemmas.Option.{slice_get-get_or}
use Rattle.bt_tcp.specs.Segments.{Segment, or_else, byte_in, byte_at, IsStream}
use Rattle.bt_tcp.specs.Windows.{IsTaken}
use Rattle.bt_tcp.proofs.Bytes.{byte_at-push, byte_in-at, byte_in-before, byte_in-past, byte_in-nil, or_else-None, or_else-assoc}
use Rattle.bt_tcp.proofs.RingProofs.{known-past, ring-none}
use Rattle.bt_tcp.proofs.Taken.{front_more, taken_on}
use Rattle.std.specs.Prelude.{Bool, true, false, unwrap_or, if◌then◌else◌}
use Rattle.bt_tcp.specs.History.{held, differs, conflicts}
use Rattle.bt_tcp.proofs.HistoryProofs.{held_before, held_after}
use Rattle.bt_flow.specs.Memory as ring
use Rattle.bt_flow.specs.Views.{IsNear, TakesIn, HandsSome, HandsOut, PassesHole, AppendsAfter}
use Rattle.bt_flow.specs.Wide.{either_of, AppendsAll, TakesAll}
use Rattle.bt_flow.specs.declared.window.Window.{Window}

-- ---- what a window had taken, as segments of one byte

abbrev pub one : ℕ → Option ℕ → Segment
one place None = record { place = place; bytes = [] }
one place (Some b) = record { place = place; bytes = b ∷ [] }

pub one-here : (place : ℕ) (o : Option ℕ) → byte_in (one place o) place ≡ o
one-here place None = byte_in-nil place place
one-here place (Some b) =
    let s : Segment = record { place = place; bytes = b ∷ [] } in
    let e : place + 0 ≡ place = omega arith in
    ap (byte_in s) (sym e) ∙ byte_in-at s 0

one-other : (place : ℕ) (o : Option ℕ) (i : ℕ) → i ≢ place → byte_in (one place o) i ≡ None
one-other place None i ne = byte_in-nil place i
one-other place (Some b) i ne =
    let s : Segment = record { place = place; bytes = b ∷ [] } in
    elim (cases_lt i place) [ inl l ↦ byte_in-before s i l | inr l ↦ byte_in-past s i (omega (arith, l, ne)) ]

abbrev cells : (ℕ → Option ℕ) → ℕ → ℕ → List Segment
cells f next zero = []
cells f next (suc n) = one (next + n) (f n) ∷ cells f next n

cells-past : (f : ℕ → Option ℕ) (next n k : ℕ) → n ≤ k → byte_at (cells f next n) (next + k) ≡ None
cells-past f next zero k h = refl
cells-past f next (suc n) k h =
    let ne : next + k ≢ next + n = omega (arith, h) in
    ap (λ o. or_else o (byte_at (cells f next n) (next + k))) (one-other (next + n) (f n) (next + k) ne) ∙ cells-past f next n k (omega (arith, h))

cells-at : (f : ℕ → Option ℕ) (next n k : ℕ) → k < n → byte_at (cells f next n) (next + k) ≡ f k
cells-at f next zero k h = absurd (omega (arith, h))
cells-at f next (suc n) k h = elim (cases_order k n) [
  | inl q ↦ rw q (ap (λ o. or_else o (byte_at (cells f next n) (next + n))) (one-here (next + n) (f n))
      ∙ ap (or_else (f n)) (cells-past f next n n (omega arith)) ∙ or_else-None (f n))
  | inr q ↦ (
      let l : k < n = elim q [ inl a ↦ omega (arith, a) | inr b ↦ omega (arith, b, h) ] in
      let ne : next + k ≢ next + n = omega (arith, l) in
      ap (λ o. or_else o (byte_at (cells f next n) (next + k))) (one-other (next + n) (f n) (next + k) ne) ∙ cells-at f next n k l)
]

cells-are : (f : ℕ → Option ℕ) (next n : ℕ) → ((k : ℕ) → n ≤ k → f k ≡ None) → (k : ℕ) → byte_at (cells f next n) (next + k) ≡ f k
cells-are f next n none k = elim (cases_lt k n) [
  | inl l ↦ cells-at f next n k l
  | inr l ↦ cells-past f next n k l ∙ sym (none k l)
]

-- ---- one segment, place by place

-- The ring took a segment, and these bytes were handed out.
pub record Moves (s : Segment) (next : ℕ) (near : ℕ → Option ℕ) (more : List ℕ) (next' : ℕ) (near' : ℕ → Option ℕ) : Type 0 where
  pub next_is : next' ≡ next + length more
  pub front : (k : ℕ) → k < length more → or_else (near k) (byte_in s (next + k)) ≡ slice_get more k
  pub rest : (k : ℕ) → near' k ≡ or_else (near (length more + k)) (byte_in s (next' + k))
  pub ends : near' 0 ≡ None

pub moves : (at : ℕ) (bytes : List ℕ) (next : ℕ) (near : ℕ → Option ℕ) (more : List ℕ) (next' : ℕ) (near' : ℕ → Option ℕ) (n : ℕ)
    → ((k : ℕ) → n ≤ k → near k ≡ None) → TakesIn at bytes next near more next' near'
    → Moves (record { place = at; bytes = bytes }) next near more next' near'
moves at bytes next near more next' near' n none t =
    let s : Segment = record { place = at; bytes = bytes } in
    let before : List Segment = cells near next n in
    let same : (k : ℕ) → byte_at before (next + k) ≡ near k = cells-are near next n none in
    let taken : IsTaken before next [] next near = record {
      next_is = omega arith;
      front = λ k h. absurd (omega (arith, h));
      rest = same;
    } in
    let both = t.taken before next [] taken in
    let push : (i : ℕ) → byte_at (before ++ s ∷ []) i ≡ or_else (byte_at before i) (byte_in s i) = byte_at-push before s in
    record {
      next_is = t.next_is;
      front = λ k h. ap (λ o. or_else o (byte_in s (next + k))) (sym (same k)) ∙ sym (push (next + k)) ∙ both.0.front k h;
      rest = λ k. (
          let e : next' + k ≡ next + (length more + k) = omega (arith, t.next_is) in
          sym (both.0.rest k) ∙ push (next' + k) ∙ ap (λ o. or_else o (byte_in s (next' + k))) (ap (byte_at before) e ∙ same (length more + k)));
      ends = (
          let e : next' + 0 ≡ next + length more = omega (arith, t.next_is) in
          sym (both.0.rest 0) ∙ ap (byte_at (before ++ s ∷ [])) e ∙ both.1.ends);
    }

-- A window has no byte past its places.
pub window_none : (w : Window) (k : ℕ) → ring.capacity_of w ≤ k → ring.seen w k ≡ None
window_none w k h = ring-none w.known.items w.ahead.items w.ring.head k (known-past w.known.items w.ring.head k h)

some_first : (a b : Option ℕ) (x : ℕ) → a ≡ Some x → or_else a b ≡ a
some_first (Some y) b x e = refl
some_first None b x e = absurd (cc)

-- the far byte before the later one, and so the ring's segment before the far byte
merges : (r f v m : Option ℕ) → or_else m f ≡ or_else f v → or_else (or_else r f) v ≡ or_else (or_else r m) f
merges r f v m e = or_else-assoc r f v ∙ ap (or_else r) (sym e) ∙ sym (or_else-assoc r m f)

-- The segments cover more now, except where they had a byte: these values.
abbrev pub Adds : List Segment → (ℕ → Option ℕ) → List Segment → Type 0
Adds segs value segs' = (i : ℕ) → byte_at segs' i ≡ or_else (byte_at segs i) (value i)

-- Where the ring is given a byte that is far, it is the far one.
abbrev pub Merges : Segment → (ℕ → Option ℕ) → (ℕ → Option ℕ) → Type 0
Merges s far value = (i : ℕ) → or_else (byte_in s i) (far i) ≡ or_else (far i) (value i)

pub moved : (segs segs' : List Segment) (base : ℕ) (out : List ℕ) (next : ℕ) (near far value : ℕ → Option ℕ) (s : Segment) (more : List ℕ)
    (next' : ℕ) (near' : ℕ → Option ℕ) → Adds segs value segs' → Merges s far value → Moves s next near more next' near'
    → IsTaken segs base out next (either_of near far next) → IsTaken segs' base (out ++ more) next' (either_of near' far next')
moved segs segs' base out next near far value s more next' near' g e m t = record {
  next_is = omega (arith, m.next_is, t.next_is, length-append out more);
  front = front_more segs' base out more
      (λ k h. g (base + k) ∙ some_first (byte_at segs (base + k)) (value (base + k)) (get_or out k 0) (t.front k h ∙ slice_get-get_or out k 0 h) ∙ t.front k h)
      (λ k h. ap (λ n. byte_at segs' (n + k)) (sym t.next_is) ∙ g (next + k) ∙ ap (λ o. or_else o (value (next + k))) (t.rest k)
      ∙ merges (near k) (far (next + k)) (value (next + k)) (byte_in s (next + k)) (e (next + k))
      ∙ some_first (or_else (near k) (byte_in s (next + k))) (far (next + k)) (get_or more k 0) (m.front k h ∙ slice_get-get_or more k 0 h)
      ∙ m.front k h);
  rest = λ k. (
      let j : ℕ = length more + k in
      let a : next' + k ≡ next + j = omega (arith, m.next_is) in
      g (next' + k) ∙ ap (λ o. or_else o (value (next' + k))) (ap (byte_at segs) a ∙ t.rest j
      ∙ ap (λ n. or_else (near j) (far n)) (sym a))
      ∙ merges (near j) (far (next' + k)) (value (next' + k)) (byte_in s (next' + k)) (e (next' + k))
      ∙ ap (λ o. or_else o (far (next' + k))) (sym (m.rest k)));
}

-- ---- what is put through the ring

adds_nothing : (segs : List Segment) → Adds segs (λ _. None) segs
adds_nothing segs i = sym (or_else-None (byte_at segs i))

-- A segment none of whose bytes is far.
pub merges_apart : (at : ℕ) (bytes : List ℕ) (far : ℕ → Option ℕ) → ((i : ℕ) → at ≤ i → i < at + length bytes → far i ≡ None)
    → Merges (record { place = at; bytes = bytes }) far (byte_in (record { place = at; bytes = bytes }))
merges_apart at bytes far apart i =
    let s : Segment = record { place = at; bytes = bytes } in
    let outside : byte_in s i ≡ None → or_else (byte_in s i) (far i) ≡ or_else (far i) (byte_in s i)
    = λ n. ap (λ o. or_else o (far i)) n ∙ sym (or_else-None (far i)) ∙ ap (or_else (far i)) (sym n) in
    elim (cases_lt i at) [
      | inl l ↦ outside (byte_in-before s i l)
      | inr l ↦ elim (cases_lt i (at + length bytes)) [
        | inl b ↦ ap (or_else (byte_in s i)) (apart i l b) ∙ or_else-None (byte_in s i) ∙ ap (λ o. or_else o (byte_in s i)) (sym (apart i l b))
        | inr b ↦ outside (byte_in-past s i b)
      ]
    ]

-- a far byte
merges_one : (place b : ℕ) (far : ℕ → Option ℕ) → far place ≡ Some b → Merges (record { place = place; bytes = b ∷ [] }) far (λ _. None)
merges_one place b far h i = elim (cases_order i place) [
  | inl q ↦ rw q (ap (λ o. or_else o (far place)) (one-here place (Some b)) ∙ sym h ∙ sym (or_else-None (far place)))
  | inr q ↦ (
      let ne : i ≢ place = λ w. elim q [ inl a ↦ omega arith | inr b ↦ omega arith ] in
      ap (λ o. or_else o (far i)) (one-other place (Some b) i ne) ∙ sym (or_else-None (far i)))
]

merges_none : (place : ℕ) (far : ℕ → Option ℕ) → Merges (record { place = place; bytes = [] }) far (λ _. None)
merges_none place far i = ap (λ o. or_else o (far i)) (byte_in-nil place i) ∙ sym (or_else-None (far i))

-- ---- what is handed out

-- Bytes that were far are handed out.
pub hands_one : (next b : ℕ) (near far : ℕ → Option ℕ) (given more given' : List ℕ) (next' : ℕ) (near' : ℕ → Option ℕ) → far next ≡ Some b
    → Moves (record { place = next; bytes = b ∷ [] }) next near more next' near' → given' ≡ given ++ more
    → HandsSome next (either_of near far next) given next' (either_of near' far next') given'
hands_one next b near far given more given' next' near' h m g = record {
  more = more;
  is = g;
  next_is = m.next_is;
  taken = λ segs base out t. moved segs segs base out next near far (λ _. None) (record { place = next; bytes = b ∷ [] }) more next' near'
      (adds_nothing segs) (merges_one next b far h) m t;
}

-- One after the other.
pub hands_both : (n : ℕ) (a : ℕ → Option ℕ) (given : List ℕ) (n1 : ℕ) (a1 : ℕ → Option ℕ) (given1 : List ℕ) (n2 : ℕ) (a2 : ℕ → Option ℕ)
    (given2 : List ℕ) → HandsSome n a given n1 a1 given1 → HandsSome n1 a1 given1 n2 a2 given2 → HandsSome n a given n2 a2 given2
hands_both n a given n1 a1 given1 n2 a2 given2 p q = record {
  more = p.more ++ q.more;
  is = q.is ∙ ap (λ x. x ++ q.more) p.is ∙ append_assoc given p.more q.more;
  next_is = omega (arith, p.next_is, q.next_is, length-append p.more q.more);
  taken = λ segs base out h. subst (λ x. IsTaken segs base x n2 a2) (append_assoc out p.more q.more) (q.taken segs base (out ++ p.more) (p.taken segs base out h));
}

-- No byte is at the next place. Those before it may be forgotten.
pub hands_all : (n : ℕ) (a : ℕ → Option ℕ) (given : List ℕ) (n1 : ℕ) (near far far' : ℕ → Option ℕ) (given1 : List ℕ)
    → HandsSome n a given n1 (either_of near far n1) given1 → near 0 ≡ None → far n1 ≡ None → ((i : ℕ) → n1 ≤ i → far' i ≡ far i)
    → HandsOut n a given n1 (either_of near far' n1) given1
hands_all n a given n1 near far far' given1 s z f keep = record {
  some = record {
    more = s.more;
    is = s.is;
    next_is = s.next_is;
    taken = λ segs base out h. taken_on segs base (out ++ s.more) n1 (either_of near far n1) (either_of near far' n1)
        (λ k. ap (or_else (near k)) (keep (n1 + k) (omega arith))) (s.taken segs base out h);
  };
  stream = λ segs base out h. (
      let t = s.taken segs base out h in
      let e : base + length (out ++ s.more) ≡ n1 + 0 = omega (arith, t.next_is) in
      let here : n1 + 0 ≡ n1 = omega arith in
      record {
        front = t.front;
        ends = ap (byte_at segs) e ∙ t.rest 0 ∙ ap (λ o. or_else o (far (n1 + 0))) z ∙ ap far here ∙ f;
      });
}

-- A segment went through the ring, and after that what is ready was handed out.
pub takes_then : (at : ℕ) (bytes : List ℕ) (s : Segment) (n : ℕ) (near far : ℕ → Option ℕ) (more : List ℕ) (n1 : ℕ) (near1 : ℕ → Option ℕ)
    (given : List ℕ) (n2 : ℕ) (a2 : ℕ → Option ℕ) (given2 : List ℕ)
    → Merges s far (byte_in (record { place = at; bytes = bytes })) → IsNear at (length bytes) n → Moves s n near more n1 near1
    → (o : HandsOut n1 (either_of near1 far n1) given n2 a2 given2) → TakesIn at bytes n (either_of near far n) (more ++ o.some.more) n2 a2
takes_then at bytes s n near far more n1 near1 given n2 a2 given2 e near_is m o =
    let one_more : Segment = record { place = at; bytes = bytes } in
    record {
      next_is = omega (arith, m.next_is, o.some.next_is, length-append more o.some.more);
      near = near_is;
      taken = λ segs base out h. (
          let all : List Segment = segs ++ one_more ∷ [] in
          let t = moved segs all base out n near far (byte_in one_more) s more n1 near1 (byte_at-push segs one_more) e m h in (
            subst (λ x. IsTaken all base x n2 a2) (append_assoc out more o.some.more) (o.some.taken all base (out ++ more) t),
            subst (λ x. IsStream all base x) (append_assoc out more o.some.more) (o.stream all base (out ++ more) t),
          ));
    }

-- A segment became far, and after that what is ready was handed out.
pub takes_kept : (at : ℕ) (bytes : List ℕ) (n : ℕ) (near far far' : ℕ → Option ℕ) (more : List ℕ) (n1 : ℕ) (near1 : ℕ → Option ℕ)
    (given : List ℕ) (n2 : ℕ) (a2 : ℕ → Option ℕ) (given2 : List ℕ)
    → ((i : ℕ) → far' i ≡ or_else (far i) (byte_in (record { place = at; bytes = bytes }) i)) → at + length bytes ≤ n + 15728640
    → Moves (record { place = n; bytes = [] }) n near more n1 near1
    → (o : HandsOut n1 (either_of near1 far' n1) given n2 a2 given2) → TakesIn at bytes n (either_of near far n) (more ++ o.some.more) n2 a2
takes_kept at bytes n near far far' more n1 near1 given n2 a2 given2 e h m o =
    let one_more : Segment = record { place = at; bytes = bytes } in
    record {
      next_is = omega (arith, m.next_is, o.some.next_is, length-append more o.some.more);
      near = λ _ _. h;
      taken = λ segs base out t0. (
          let all : List Segment = segs ++ one_more ∷ [] in
          let kept : IsTaken all base out n (either_of near far' n) = record {
            next_is = t0.next_is;
            front = λ k l. byte_at-push segs one_more (base + k) ∙ some_first (byte_at segs (base + k)) (byte_in one_more (base + k)) (get_or out k 0)
                (t0.front k l ∙ slice_get-get_or out k 0 l) ∙ t0.front k l;
            rest = λ k. byte_at-push segs one_more (n + k) ∙ ap (λ o. or_else o (byte_in one_more (n + k))) (t0.rest k)
                ∙ or_else-assoc (near k) (far (n + k)) (byte_in one_more (n + k)) ∙ ap (or_else (near k)) (sym (e (n + k)));
          } in
          let t = moved all all base out n near far' (λ _. None) (record { place = n; bytes = [] }) more n1 near1 (adds_nothing all) (merges_none n far') m kept in (
            subst (λ x. IsTaken all base x n2 a2) (append_assoc out more o.some.more) (o.some.taken all base (out ++ more) t),
            subst (λ x. IsStream all base x) (append_assoc out more o.some.more) (o.stream all base (out ++ more) t),
          ));
    }

-- ---- conflicts

pub conflicts_within : (f g : ℕ → Option ℕ) (at : ℕ) (bytes : List ℕ) → ((i : ℕ) → at ≤ i → i < at + length bytes → f i ≡ g i)
    → conflicts f at bytes ≡ conflicts g at bytes
conflicts_within f g at [] n = refl
conflicts_within f g at (b ∷ bytes) n =
    ap (λ o. (if differs o b then 1 else 0) + conflicts f (at + 1) bytes) (n at (omega arith) (omega arith))
    ∙ ap (λ k. (if differs (g at) b then 1 else 0) + k) (conflicts_within f g (at + 1) bytes (λ i h l. n i (omega (arith, h)) (omega (arith, l))))

-- a byte that isn't far
pub held_near : (next : ℕ) (near far : ℕ → Option ℕ) (i : ℕ) → far i ≡ None → held next (either_of near far next) i ≡ held next near i
held_near next near far i f = elim (cases_lt i next) [
  | inl l ↦ held_before next (either_of near far next) i l ∙ sym (held_before next near i l)
  | inr l ↦ (
      let z : next + (i - next) ≡ i = omega (arith, l) in
      held_after next (either_of near far next) i l ∙ ap (λ n. or_else (near (i - next)) (far n)) z ∙ ap (or_else (near (i - next))) f
      ∙ or_else-None (near (i - next)) ∙ sym (held_after next near i l))
]

-- ---- a segment with the far bytes in place of its own

picked : (f : Option ℕ) (a p : ℕ) → a ≡ unwrap_or f p → or_else (Some a) f ≡ or_else f (Some p)
picked None a p e = ap Some e
picked (Some x) a p e = ap Some e

pub merged_is : (at : ℕ) (all part : List ℕ) (far : ℕ → Option ℕ) → length all ≡ length part
    → ((k : ℕ) → k < length part → get_or all k 0 ≡ unwrap_or (far (at + k)) (get_or part k 0))
    → Merges (record { place = at; bytes = all }) far (byte_in (record { place = at; bytes = part }))
merged_is at all part far len first i =
    let s : Segment = record { place = at; bytes = all } in
    let t : Segment = record { place = at; bytes = part } in
    let outside : byte_in s i ≡ None → byte_in t i ≡ None → or_else (byte_in s i) (far i) ≡ or_else (far i) (byte_in t i)
    = λ m n. ap (λ o. or_else o (far i)) m ∙ sym (or_else-None (far i)) ∙ ap (or_else (far i)) (sym n) in
    elim (cases_lt i at) [
      | inl l ↦ outside (byte_in-before s i l) (byte_in-before t i l)
      | inr l ↦ elim (cases_lt i (at + length part)) [
        | inl b ↦ (
            let k : ℕ = i - at in
            let e : at + k ≡ i = omega (arith, l) in
            let h : k < length part = omega (arith, b, l) in
            let a : byte_in s i ≡ Some (get_or all k 0) = ap (byte_in s) (sym e) ∙ byte_in-at s k ∙ slice_get-get_or all k 0 (omega (arith, h, len)) in
            let p : byte_in t i ≡ Some (get_or part k 0) = ap (byte_in t) (sym e) ∙ byte_in-at t k ∙ slice_get-get_or part k 0 h in
            ap (λ o. or_else o (far i)) a ∙ picked (far i) (get_or all k 0) (get_or part k 0) (first k h ∙ ap (λ n. unwrap_or (far n) (get_or part k 0)) e)
            ∙ ap (or_else (far i)) (sym p))
        | inr b ↦ outside (byte_in-past s i (omega (arith, b, len))) (byte_in-past t i b)
      ]
    ]

-- ---- what the calls promise

then_appended : (later a b later1 later2 : List ℕ) → later1 ≡ later ++ a → later2 ≡ later1 ++ b → later2 ≡ later ++ (a ++ b)
then_appended later a b later1 later2 p q = q ∙ ap (λ x. x ++ b) p ∙ append_assoc later a b

-- The bytes that come next and those after them were appended.
pub appends_all : (at : ℕ) (bytes : List ℕ) (next : ℕ) (near : ℕ → Option ℕ) (later fresh rest : List ℕ) (next' : ℕ) (near' : ℕ → Option ℕ)
    (later1 later2 : List ℕ) → AppendsAfter fresh [] rest (λ more. TakesIn at bytes next near more next' near') → later1 ≡ later ++ fresh
    → later2 ≡ later1 ++ rest → AppendsAll at bytes next near later next' near' later2
appends_all at bytes next near later fresh rest next' near' later1 later2 t p q = record {
  more = fresh ++ t.rest;
  is = then_appended later fresh t.rest later1 later2 p (q ∙ ap (λ x. later1 ++ x) t.is);
  taken = t.more;
}

-- A segment that isn't too far is taken.
pub taken_all : (at : ℕ) (bytes : List ℕ) (next : ℕ) (near : ℕ → Option ℕ) (later : List ℕ) (is : Bool) (next' : ℕ) (near' : ℕ → Option ℕ)
    (later' : List ℕ) → at + length bytes ≤ next + 15728640 → TakesAll at bytes next near later is next' near' later'
    → (is ≡ true) × AppendsAll at bytes next near later next' near' later'
taken_all at bytes next near later true next' near' later' h t = (refl, t)
taken_all at bytes next near later false next' near' later' h t = absurd (omega (arith, h, t.0))

-- The same, as moves of the ring.
pub moves_all : (at : ℕ) (bytes : List ℕ) (w : Window) (later : List ℕ) (next' : ℕ) (near' : ℕ → Option ℕ) (later' : List ℕ)
    → (a : AppendsAll at bytes (ring.next_of w) (ring.seen w) later next' near' later')
    → Moves (record { place = at; bytes = bytes }) (ring.next_of w) (ring.seen w) a.more next' near'
moves_all at bytes w later next' near' later' a =
    moves at bytes (ring.next_of w) (ring.seen w) a.more next' near' (ring.capacity_of w) (window_none w) a.taken

-- A far byte was handed out.
pub hands_far : (w : Window) (b : ℕ) (far : ℕ → Option ℕ) (given : List ℕ) (next' : ℕ) (near' : ℕ → Option ℕ) (given' : List ℕ)
    → far (ring.next_of w) ≡ Some b → AppendsAll (ring.next_of w) (b ∷ []) (ring.next_of w) (ring.seen w) given next' near' given'
    → HandsSome (ring.next_of w) (either_of (ring.seen w) far (ring.next_of w)) given next' (either_of near' far next') given'
hands_far w b far given next' near' given' h a =
    hands_one (ring.next_of w) b (ring.seen w) far given a.more given' next' near' h
    (moves_all (ring.next_of w) (b ∷ []) w given next' near' given' a) a.is

-- A far segment was taken.
pub far_taken : (at : ℕ) (bytes : List ℕ) (w : Window) (far far' : ℕ → Option ℕ) (later : List ℕ) (n1 : ℕ) (near1 : ℕ → Option ℕ) (later1 : List ℕ)
    (n2 : ℕ) (a2 : ℕ → Option ℕ) (later2 : List ℕ)
    → ((i : ℕ) → far' i ≡ or_else (far i) (byte_in (record { place = at; bytes = bytes }) i)) → at + length bytes ≤ ring.next_of w + 15728640
    → AppendsAll (ring.next_of w) [] (ring.next_of w) (ring.seen w) later n1 near1 later1
    → HandsOut n1 (either_of near1 far' n1) later1 n2 a2 later2
    → AppendsAll at bytes (ring.next_of w) (either_of (ring.seen w) far (ring.next_of w)) later n2 a2 later2
far_taken at bytes w far far' later n1 near1 later1 n2 a2 later2 e h a o = record {
  more = a.more ++ o.some.more;
  is = then_appended later a.more o.some.more later1 later2 a.is o.some.is;
  taken = takes_kept at bytes (ring.next_of w) (ring.seen w) far far' a.more n1 near1 later1 n2 a2 later2 e h
      (moves_all (ring.next_of w) [] w later n1 near1 later1 a) o;
}

-- A segment was taken with the far bytes in place of its own.
pub among_taken : (at : ℕ) (bytes all : List ℕ) (w : Window) (far : ℕ → Option ℕ) (later : List ℕ) (n1 : ℕ) (near1 : ℕ → Option ℕ) (later1 : List ℕ)
    (n2 : ℕ) (a2 : ℕ → Option ℕ) (later2 : List ℕ)
    → length all ≡ length bytes → Merges (record { place = at; bytes = all }) far (byte_in (record { place = at; bytes = bytes }))
    → AppendsAll at all (ring.next_of w) (ring.seen w) later n1 near1 later1
    → HandsOut n1 (either_of near1 far n1) later1 n2 a2 later2
    → AppendsAll at bytes (ring.next_of w) (either_of (ring.seen w) far (ring.next_of w)) later n2 a2 later2
among_taken at bytes all w far later n1 near1 later1 n2 a2 later2 len e a o = record {
  more = a.more ++ o.some.more;
  is = then_appended later a.more o.some.more later1 later2 a.is o.some.is;
  taken = takes_then at bytes (record { place = at; bytes = all }) (ring.next_of w) (ring.seen w) far a.more n1 near1 later1 n2 a2 later2 e
      (subst (λ size. IsNear at size (ring.next_of w)) len a.taken.near) (moves_all at all w later n1 near1 later1 a) o;
}

-- A segment was taken as it is, and after that what is ready was handed out.
pub near_taken : (at : ℕ) (bytes : List ℕ) (w : Window) (far : ℕ → Option ℕ) (fresh later : List ℕ) (n1 : ℕ) (near1 : ℕ → Option ℕ) (later1 : List ℕ)
    (n2 : ℕ) (a2 : ℕ → Option ℕ) (later2 : List ℕ) → ((i : ℕ) → at ≤ i → i < at + length bytes → far i ≡ None)
    → AppendsAfter fresh later later1 (λ more. TakesIn at bytes (ring.next_of w) (ring.seen w) more n1 near1)
    → HandsOut n1 (either_of near1 far n1) later1 n2 a2 later2
    → AppendsAfter fresh later later2 (λ more. TakesIn at bytes (ring.next_of w) (either_of (ring.seen w) far (ring.next_of w)) more n2 a2)
near_taken at bytes w far fresh later n1 near1 later1 n2 a2 later2 apart t o = record {
  rest = t.rest ++ o.some.more;
  is = then_appended later t.rest o.some.more later1 later2 t.is o.some.is;
  more = subst (λ x. TakesIn at bytes (ring.next_of w) (either_of (ring.seen w) far (ring.next_of w)) x n2 a2) (append_assoc fresh t.rest o.some.more)
      (takes_then at bytes (record { place = at; bytes = bytes }) (ring.next_of w) (ring.seen w) far (fresh ++ t.rest) n1 near1 later1 n2 a2 later2
      (merges_apart at bytes far apart) t.more.near
      (moves at bytes (ring.next_of w) (ring.seen w) (fresh ++ t.rest) n1 near1 (ring.capacity_of w) (window_none w) t.more) o);
}

-- After a segment was taken, no byte is at the ring's next place.
pub none_after : (at : ℕ) (bytes : List ℕ) (w : Window) (more : List ℕ) (n1 : ℕ) (near1 : ℕ → Option ℕ)
    → TakesIn at bytes (ring.next_of w) (ring.seen w) more n1 near1 → near1 0 ≡ None
none_after at bytes w more n1 near1 t = (moves at bytes (ring.next_of w) (ring.seen w) more n1 near1 (ring.capacity_of w) (window_none w) t).ends

-- None of its bytes is handed out by itself.
pub appended_after : (at : ℕ) (bytes : List ℕ) (next : ℕ) (ahead : ℕ → Option ℕ) (later : List ℕ) (next' : ℕ) (ahead' : ℕ → Option ℕ) (later' : List ℕ)
    → AppendsAll at bytes next ahead later next' ahead' later' → AppendsAfter [] later later' (λ more. TakesIn at bytes next ahead more next' ahead')
appended_after at bytes next ahead later next' ahead' later' a = record { rest = a.more; is = a.is; more = a.taken }

-- Neither has a byte.
pub either_none : (a b : Option ℕ) → or_else a b ≡ None → (a ≡ None) × (b ≡ None)
either_none None b e = (refl, e)
either_none (Some x) b e = absurd (cc)

-- Places were passed in the ring, and after that what is ready was handed out.
pub hole_passed : (count : ℕ) (w : Window) (far : ℕ → Option ℕ) (later : List ℕ) (n1 : ℕ) (near1 : ℕ → Option ℕ) (later1 : List ℕ) (n2 : ℕ)
    (a2 : ℕ → Option ℕ) (later2 : List ℕ) → ((k : ℕ) → k < count → either_of (ring.seen w) far (ring.next_of w) k ≡ None)
    → PassesHole count (ring.next_of w) (ring.seen w) later n1 near1 later1 → HandsOut n1 (either_of near1 far n1) later1 n2 a2 later2
    → PassesHole count (ring.next_of w) (either_of (ring.seen w) far (ring.next_of w)) later n2 a2 later2
hole_passed count w far later n1 near1 later1 n2 a2 later2 none p o = record {
  more = p.more ++ o.some.more;
  is = then_appended later p.more o.some.more later1 later2 p.is o.some.is;
  taken = λ fill e. (
      let n : ℕ = ring.next_of w in
      let t = p.taken fill e in
      let apart : (i : ℕ) → n ≤ i → i < n + length fill → far i ≡ None = λ i a b. (
      let k : ℕ = i - n in
      let at : n + k ≡ i = omega (arith, a) in
      ap far (sym at) ∙ (either_none (ring.seen w k) (far (n + k)) (none k (omega (arith, a, b, e)))).1) in
      subst (λ x. TakesIn n fill n (either_of (ring.seen w) far n) x n2 a2) (append_assoc fill p.more o.some.more)
      (takes_then n fill (record { place = n; bytes = fill }) n (ring.seen w) far (fill ++ p.more) n1 near1 later1 n2 a2 later2
      (merges_apart n fill far apart) t.near (moves n fill n (ring.seen w) (fill ++ p.more) n1 near1 (ring.capacity_of w) (window_none w) t) o));
}

-- After places were passed, no byte is at the ring's next place.
pub none_passed : (count : ℕ) (w : Window) (later : List ℕ) (n1 : ℕ) (near1 : ℕ → Option ℕ) (later1 : List ℕ)
    → PassesHole count (ring.next_of w) (ring.seen w) later n1 near1 later1 → near1 0 ≡ None
none_passed count w later n1 near1 later1 p =
    let fill : List ℕ = replicate count 0 in
    none_after (ring.next_of w) fill w (fill ++ p.more) n1 near1 (p.taken fill (length-replicate count 0))
