-- What a stream has handed out after a segment.
use Rattle.std.proofs.Common.{◌≡◌, ℕ, ◌+◌, ◌-◌, ◌<◌, ◌≤◌, ◌^◌, min, Bool, true, false, List, [], ◌∷◌, ◌++◌, length, take, drop, length-append, length-drop, append-nil, append_assoc, zero-add, refl}
use Rattle.std.proofs.Common.{sym, ap, subst, ◌∙◌, arith}
use Rattle.std.specs.Prelude.{Option, None, slice_get, if◌then◌else◌, nat_lt}
use Rattle.std.proofs.lemmas.Grind.{common_steps}
use Rattle.std.proofs.lemmas.Option.{slice_get_past}
use Rattle.std.proofs.lemmas.List.{drop-append-le}
use Rattle.std.proofs.Math.Seq.{drop-append_seam}
use Rattle.bt_tcp.specs.Segments.{Segment, IsFront, IsStream, byte_at}
use Rattle.bt_tcp.specs.Windows.{IsTaken}
use Rattle.bt_tcp.specs.History.{IsHistory, differs, conflicts, kept, held}
use Rattle.bt_tcp.proofs.Gets.{slice_get-drop}
use Rattle.bt_tcp.proofs.Taken.{front_push}
use Rattle.bt_flow.specs.declared.stream.Stream.{Stream}
use Rattle.bt_flow.specs.Wide.{next_of, seen}
use Rattle.bt_flow.specs.Views.{TakesIn, PassesHole, AppendsAfter, IsNear}
use Rattle.bt_flow.specs.Streams.{IsStreamOf, Advances, StreamPasses, StreamTakes, conflicts_with, since_hole}

same : (b : Bool) (o : Option ℕ) → o ≡ None → (if b then None else o) ≡ None
same true o e = refl
same false o e = e

kept_past : (base : ℕ) (out : List ℕ) (i : ℕ) → base + length out ≤ i → kept base out i ≡ None
kept_past base out i h =
    let p : length out ≤ i - base = omega arith in
    let n : slice_get out (i - base) ≡ None = slice_get_past out (i - base) p in
    grind (arith, common_steps)

-- A segment that begins at the next place or later differs from no byte that was handed out.
pub conflicts_past : (base : ℕ) (out : List ℕ) (at : ℕ) (bytes : List ℕ) → base + length out ≤ at → conflicts (kept base out) at bytes ≡ 0
conflicts_past base out at [] h = refl
conflicts_past base out at (b ∷ bytes) h =
    let h' : base + length out ≤ at + 1 = omega (arith, h) in
    ap (λ o. (if differs o b then 1 else 0) + conflicts (kept base out) (at + 1) bytes) (kept_past base out at h)
    ∙ zero-add (conflicts (kept base out) (at + 1) bytes)
    ∙ conflicts_past base out (at + 1) bytes h'

-- Nothing is ahead.
pub conflicts_none : (next : ℕ) (ahead : ℕ → Option ℕ) (at : ℕ) (bytes : List ℕ) → ((k : ℕ) → ahead k ≡ None) → conflicts (held next ahead) at bytes ≡ 0
conflicts_none next ahead at [] z = refl
conflicts_none next ahead at (b ∷ bytes) z =
    let n : held next ahead at ≡ None = same (nat_lt at next) (ahead (at - next)) (z (at - next)) in
    ap (λ o. (if differs o b then 1 else 0) + conflicts (held next ahead) (at + 1) bytes) n
    ∙ zero-add (conflicts (held next ahead) (at + 1) bytes)
    ∙ conflicts_none next ahead (at + 1) bytes z

-- what was appended
pub newest : (xs given rest : List ℕ) (n : ℕ) → xs ≡ given ++ rest → n ≡ length given → take (length xs - n) (drop n xs) ≡ rest
newest xs given rest n e l =
    let m : length xs ≡ length given + length rest = ap length e ∙ length-append given rest in
    let k : length xs - n ≡ length rest = omega (arith, l, m) in
    grind (arith, common_steps)

-- ---- bytes since a hole

pub next_since : (segs : List Segment) (out : List ℕ) (s : Stream) → IsStreamOf segs out s → next_of s.window ≡ s.resumed + length (since_hole out s)
next_since segs out s i = omega (arith, i.next_is, i.resumed, i.reached, length-drop (s.resumed - s.base) out)

-- More bytes come after them.
since_more : (out more : List ℕ) (s s' : Stream) → s'.base ≡ s.base → s'.resumed ≡ s.resumed → s.resumed - s.base ≤ length out
    → since_hole (out ++ more) s' ≡ since_hole out s ++ more
since_more out more s s' b r h =
    ap (λ n. drop (n - s'.base) (out ++ more)) r ∙ ap (λ n. drop (s.resumed - n) (out ++ more)) b ∙ drop-append-le (s.resumed - s.base) out more h

-- What was handed out since a place.
pub taken_since : (segs : List Segment) (base from : ℕ) (out : List ℕ) (next : ℕ) (ahead : ℕ → Option ℕ) → base ≤ from → from ≤ next
    → IsTaken segs base out next ahead → IsTaken segs from (drop (from - base) out) next ahead
taken_since segs base from out next ahead h l t =
    let n : ℕ = from - base in
    record {
      next_is = omega (arith, t.next_is, h, l, length-drop n out);
      front = λ k m. (
          let e : base + (n + k) ≡ from + k = omega (arith, h) in
          ap (byte_at segs) (sym e) ∙ t.front (n + k) (omega (arith, m, length-drop n out)) ∙ sym (slice_get-drop out n k));
      rest = t.rest;
    }

-- A segment was taken.
pub advance : (at : ℕ) (bytes : List ℕ) (s : Stream) (more : List ℕ) (s' : Stream) → s'.base ≡ s.base → s'.resumed ≡ s.resumed
    → s'.conflicts ≡ s.conflicts → s.is_lost ≡ false → s'.is_lost ≡ false
    → TakesIn at bytes (next_of s.window) (seen s.window) more (next_of s'.window) (seen s'.window)
    → ((since : List ℕ) → next_of s.window ≡ s.resumed + length since → IsHistory s.history.items since → IsHistory s'.history.items (since ++ more))
    → Advances at bytes s more s'
advance at bytes s more s' b r c l l' t h = record {
  base = b;
  resumed = r;
  conflicts = c;
  lost = λ x. absurd (let e : true ≡ false = sym x ∙ l' in cc);
  near = λ _. t.near;
  taken = λ segs out i. (
      let one : Segment = record { place = at; bytes = bytes } in
      let both = t.taken segs s.base out (i.taken l) in
      record {
        next_is = omega (arith, t.next_is, i.next_is, b, length-append out more);
        front = subst (λ x. IsFront (segs ++ one ∷ []) x (out ++ more)) (sym b) both.0.front;
        resumed = omega (arith, b, r, i.resumed);
        reached = omega (arith, r, i.reached, t.next_is);
        history = subst (IsHistory s'.history.items) (sym (since_more out more s s' b r (omega (arith, i.next_is, i.resumed, i.reached))))
            (h (since_hole out s) (next_since segs out s i) i.history);
        taken = λ _. subst (λ x. IsTaken (segs ++ one ∷ []) x (out ++ more) (next_of s'.window) (seen s'.window)) (sym b) both.0;
        stream = λ _. subst (λ x. IsStream (segs ++ one ∷ []) x (out ++ more)) (sym b) both.1;
        none = λ x. absurd (let e : true ≡ false = sym x ∙ l' in cc);
      });
}

-- A gap became final, or was final before.
pub lost_one : (at : ℕ) (bytes : List ℕ) (s s' : Stream) → s'.base ≡ s.base → s'.resumed ≡ s.resumed → s'.is_lost ≡ true → next_of s'.window ≡ next_of s.window
    → s'.history.items ≡ s.history.items → (segs : List Segment) (out : List ℕ) → IsStreamOf segs out s → ((k : ℕ) → seen s'.window k ≡ None)
    → IsStreamOf (segs ++ record { place = at; bytes = bytes } ∷ []) (out ++ []) s'
lost_one at bytes s s' b r l n h segs out i z =
    let one : Segment = record { place = at; bytes = bytes } in
    let e : out ≡ out ++ [] = sym (append-nil out) in
    let f : IsFront (segs ++ one ∷ []) s'.base out = subst (λ x. IsFront (segs ++ one ∷ []) x out) (sym b) (front_push segs one s.base out i.front) in
    let since : since_hole (out ++ []) s' ≡ since_hole out s
    = since_more out [] s s' b r (omega (arith, i.next_is, i.resumed, i.reached)) ∙ append-nil (since_hole out s) in
    record {
      next_is = n ∙ i.next_is ∙ ap (λ x. x + length out) (sym b) ∙ ap (λ x. s'.base + length x) e;
      front = subst (λ x. IsFront (segs ++ one ∷ []) s'.base x) e f;
      resumed = omega (arith, b, r, i.resumed);
      reached = omega (arith, r, n, i.reached);
      history = subst (IsHistory s'.history.items) (sym since) (subst (λ x. IsHistory x (since_hole out s)) (sym h) i.history);
      taken = λ x. absurd (let t : true ≡ false = sym l ∙ x in cc);
      stream = λ x. absurd (let t : true ≡ false = sym l ∙ x in cc);
      none = λ _. z;
    }

-- Nothing more is ready.
pub nothing_after : (later : List ℕ) (IsMore : List ℕ → Type 0) → IsMore [] → AppendsAfter [] later later IsMore
nothing_after later IsMore m = record { rest = []; is = sym (append-nil later); more = m }

pub advance_lost : (at : ℕ) (bytes : List ℕ) (s s' : Stream) → s'.base ≡ s.base → s'.resumed ≡ s.resumed → s'.conflicts ≡ s.conflicts → s'.is_lost ≡ true
    → next_of s'.window ≡ next_of s.window → s'.history.items ≡ s.history.items → ((k : ℕ) → seen s'.window k ≡ None)
    → next_of s.window + 15728640 < at + length bytes → Advances at bytes s [] s'
advance_lost at bytes s s' b r c l n h z p = record {
  base = b;
  resumed = r;
  conflicts = c;
  lost = λ _. (p, refl);
  near = λ x. absurd (let e : true ≡ false = sym l ∙ x in cc);
  taken = λ segs out i. lost_one at bytes s s' b r l n h segs out i z;
}

pub takes_lost : (at : ℕ) (bytes : List ℕ) (s s' : Stream) → s'.base ≡ s.base → s'.resumed ≡ s.resumed → s.is_lost ≡ true → s'.is_lost ≡ true
    → next_of s'.window ≡ next_of s.window → s'.history.items ≡ s.history.items → ((k : ℕ) → seen s'.window k ≡ seen s.window k)
    → ((segs : List Segment) (out : List ℕ) → IsStreamOf segs out s → s'.conflicts ≡ min (2 ^ 64 - 1) (s.conflicts + conflicts_with out s at bytes))
    → StreamTakes at bytes s [] s'
takes_lost at bytes s s' b r l l' n h w counted = record {
  base = b;
  resumed = r;
  none = λ _. refl;
  final = λ _. l';
  lost = λ x _. absurd (let t : true ≡ false = sym l ∙ x in cc);
  near = λ x. absurd (let t : true ≡ false = sym l' ∙ x in cc);
  counted = counted;
  taken = λ segs out i. lost_one at bytes s s' b r l' n h segs out i (λ k. w k ∙ i.none l k);
}

-- The conflicts were counted, and then the segment was taken.
pub takes_on : (at : ℕ) (bytes : List ℕ) (s : Stream) (more : List ℕ) (s1 s' : Stream) → s1.base ≡ s.base → s1.resumed ≡ s.resumed → s.is_lost ≡ false
    → next_of s1.window ≡ next_of s.window
    → Advances at bytes s1 more s'
    → ((segs : List Segment) (out : List ℕ) → IsStreamOf segs out s → IsStreamOf segs out s1)
    → ((segs : List Segment) (out : List ℕ) → IsStreamOf segs out s → s1.conflicts ≡ min (2 ^ 64 - 1) (s.conflicts + conflicts_with out s at bytes))
    → StreamTakes at bytes s more s'
takes_on at bytes s more s1 s' b r l n a keep counted = record {
  base = a.base ∙ b;
  resumed = a.resumed ∙ r;
  none = λ x. absurd (let t : true ≡ false = sym x ∙ l in cc);
  final = λ x. absurd (let t : true ≡ false = sym x ∙ l in cc);
  lost = λ _ x. (subst (λ k. k + 15728640 < at + length bytes) n (a.lost x).0, (a.lost x).1);
  near = λ x. subst (IsNear at (length bytes)) n (a.near x);
  counted = λ segs out i. a.conflicts ∙ counted segs out i;
  taken = λ segs out i. a.taken segs out (keep segs out i);
}

-- ---- a hole

-- What was handed out after it.
since_passed : (out fill more : List ℕ) (n count : ℕ) → n ≡ length out → length fill ≡ count
    → drop (n + count) (out ++ (fill ++ more)) ≡ more
since_passed out fill more n count e l =
    ap (λ k. drop k (out ++ (fill ++ more))) (omega (arith, e, l, length-append out fill)) ∙ ap (drop (length (out ++ fill))) (sym (append_assoc out fill more))
    ∙ drop-append_seam (out ++ fill) more

pub passes_hole : (count : ℕ) (s : Stream) (given : List ℕ) (s' : Stream) (given' : List ℕ) → s'.base ≡ s.base → s'.resumed ≡ next_of s.window + count
    → s'.conflicts ≡ s.conflicts → s.is_lost ≡ false → s'.is_lost ≡ false
    → (p : PassesHole count (next_of s.window) (seen s.window) given (next_of s'.window) (seen s'.window) given')
    → IsHistory s'.history.items p.more → StreamPasses count s given s' given'
passes_hole count s given s' given' b r c l l' p h = record {
  more = p.more;
  is = p.is;
  base = b;
  resumed = r;
  conflicts = c;
  not_lost = l';
  taken = λ segs out fill e i. (
      let one : Segment = record { place = next_of s.window; bytes = fill } in
      let t = p.taken fill e in
      let both = t.taken segs s.base out (i.taken l) in
      let since : since_hole (out ++ (fill ++ p.more)) s' ≡ p.more
      = ap (λ k. drop k (out ++ (fill ++ p.more))) (omega (arith, r, b, i.next_is)) ∙ since_passed out fill p.more (length out) count refl e in
      record {
        next_is = omega (arith, t.next_is, i.next_is, b, length-append out (fill ++ p.more));
        front = subst (λ x. IsFront (segs ++ one ∷ []) x (out ++ (fill ++ p.more))) (sym b) both.0.front;
        resumed = omega (arith, b, r, i.next_is);
        reached = omega (arith, r, t.next_is, e, length-append fill p.more);
        history = subst (IsHistory s'.history.items) (sym since) h;
        taken = λ _. subst (λ x. IsTaken (segs ++ one ∷ []) x (out ++ (fill ++ p.more)) (next_of s'.window) (seen s'.window)) (sym b) both.0;
        stream = λ _. subst (λ x. IsStream (segs ++ one ∷ []) x (out ++ (fill ++ p.more))) (sym b) both.1;
        none = λ x. absurd (let f : true ≡ false = sym x ∙ l' in cc);
      });
}
