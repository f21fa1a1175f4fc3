-- What a direction has taken after a call.
use Rattle.std.proofs.Common.{◌≡◌, ℕ, ◌+◌, ◌-◌, min, ◌<◌, ◌≤◌, ◌^◌, Bool, true, false, List, [], ◌∷◌, ◌++◌, length, drop}
use Rattle.std.proofs.Common.{length-append, append_assoc, append-nil, refl, sym, ap, subst, ◌∙◌, arith, inl, inr}
use Rattle.std.specs.Prelude.{Option, Some, None, IfSome, is_some, not, ◌&&◌, unwrap_or, ◌⊎◌, if◌then◌else◌, nat_lt}
use Rattle.std.specs.Bool.{then_some}
use Rattle.std.proofs.lemmas.Bool.{lt-ltb, ltb-true}
use Rattle.bt_tcp.specs.declared.covered.Span.{Span}
use Rattle.bt_tcp.specs.Covered.{in_span, is_covered}
use Rattle.bt_tcp.specs.declared.halves.Half.{Half}
use Rattle.bt_tcp.specs.Segments.{Segment}
use Rattle.bt_tcp.specs.Heard.{Heard, Sent, Took, Acked, opening_of, high_of, captured_end, raised, IsBase, IsAfterSyn}
use Rattle.bt_tcp.specs.History.{conflicts, first_known, held, kept}
use Rattle.bt_tcp.proofs.HeardProofs.{greatest-push}
use Rattle.bt_tcp.proofs.HistoryProofs.{conflicts_add_up}
use Rattle.bt_tcp.specs.Halves.{IsHalf, HearsMore}
use Rattle.bt_tcp.specs.Acceptable.{IsUnsent, is_past_filling, is_unsent}
use Rattle.bt_flow.specs.declared.stream.Stream.{Stream}
use Rattle.bt_flow.specs.declared.flow.Flow.{Flow}
use Rattle.bt_flow.specs.declared.flow.Given.{Given}
use Rattle.bt_flow.specs.declared.noted.Noted.{Noted}
use Rattle.bt_flow.specs.Wide.{next_of, seen}
use Rattle.bt_flow.specs.Notes.{AddsBothIfRoom, AreNoted, IsNotedFrom, NotesBoth, NotesOne, FillsOne, HasNoRoomFor, is_full, spans_in, spans_noted}
use Rattle.bt_flow.proofs.Filled.{apart_noted, no_room}
use Rattle.bt_flow.proofs.Notes.{IsNextOf, captured_more, fills_first, first_if_room, notes_if_room, notes_more, notes_none, noted_more, same_if_room}
use Rattle.bt_flow.proofs.Streams.{conflicts_none, next_since, taken_since}
use Rattle.bt_flow.specs.Counts.{counts}
use Rattle.bt_flow.specs.Streams.{IsStreamOf, StreamTakes, conflicts_with, differing, since_hole, unless_probe}
use Rattle.bt_flow.specs.Views.{IsNear}
use Rattle.bt_flow.specs.Flows.{IsFlow, has_bytes, AreQuiet, IsBaseOf, IsStreamFor, is_lost_stream, conflicts_in, with_segment, sent_at, FlowTakes, BeginsAt, StreamsOnly}
use Rattle.bt_flow.specs.Flows.{is_left_out, is_left_out_of, HasHeard, IsHeeded, IsPassedBy}
use Rattle.bt_flow.specs.Flows.{AreNotedFor, NotesFrom, needs_room, NotesIn, FillsIn, first_held, CountsMore, IsCounted, GivesUp, LacksRoom, FillsLate}
use Rattle.bt_flow.specs.Flows.{is_captured, next_in, IsWithin, IsNotedIfRoom, NotesIfRoom, NotesSomeIn, ResumesFrom}

quiet_more : (heard : List Heard) (e : Heard) → AreQuiet heard → has_bytes e ≡ false → AreQuiet (heard ++ e ∷ [])
quiet_more [] e q h = (h, tt)
quiet_more (d ∷ heard) e q h = (q.0, quiet_more heard e q.1 h)

base_more : (heard : List Heard) (e : Heard) (base : ℕ) → IsBaseOf heard base → IsBaseOf (heard ++ e ∷ []) base
base_more heard e base b = record {
  quiet = b.quiet;
  first = b.first;
  later = b.later ++ e ∷ [];
  is = ap (λ x. x ++ e ∷ []) b.is ∙ append_assoc (b.quiet ++ Took b.first ∷ []) b.later (e ∷ []);
  silent = b.silent;
  bytes = b.bytes;
  base_is = b.base_is;
}

raised_least : (o : Option ℕ) (n : ℕ) → n ≤ raised o n
raised_least None n = omega arith
raised_least (Some m) n = omega arith

high_more : (heard : List Heard) (e : Heard) → high_of heard ≤ high_of (heard ++ e ∷ [])
high_more heard e = subst (λ x. high_of heard ≤ x) (sym (greatest-push 0 captured_end heard e)) (raised_least (captured_end e) (high_of heard))

pub within_more : (heard : List Heard) (e : Heard) (segs : List Segment) (o o' : Option Stream) → next_in o ≤ next_in o'
    → IsWithin segs (next_in o) (high_of heard) → IsWithin segs (next_in o') (high_of (heard ++ e ∷ []))
within_more heard e segs o o' l w i h c = omega (arith, w i (omega (arith, l, h)) c, high_more heard e)

within_same : (heard : List Heard) (segs : List Segment) (o o' : Option Stream) → o' ≡ o → IsWithin segs (next_in o) (high_of heard)
    → IsWithin segs (next_in o') (high_of heard)
within_same heard segs o o' e w = subst (λ x. IsWithin segs (next_in x) (high_of heard)) (sym e) w

raised_to : (b : Bool) (m n : ℕ) → b ≡ true → m ≤ raised (then_some b m) n
raised_to true m n e = omega arith
raised_to false m n e = absurd (cc)

both_are : (b c : Bool) → (if b then c else false) ≡ true → b ≡ true
both_are true c e = refl
both_are false c e = e

last_is : (b c : Bool) → (if b then false else c) ≡ true → c ≡ true
last_is true c e = absurd (cc)
last_is false c e = e

either_less : (b c : Bool) (i high : ℕ) → (b ≡ true → i < high) → (c ≡ true → i < high) → (if b then true else c) ≡ true → i < high
either_less true c i high f g e = f refl
either_less false c i high f g e = g e

within_one : (g : Given) (at : ℕ) (heard : List Heard) (segs : List Segment) (o o' : Option Stream) → counts at (length g.payload.now) ≡ true
    → next_in o ≤ next_in o' → IsWithin segs (next_in o) (high_of heard)
    → IsWithin (segs ++ record { place = at; bytes = g.payload.now } ∷ []) (next_in o') (high_of (heard ++ Took (sent_at g at) ∷ []))
within_one g at heard segs o o' y m w i h c =
    let size : ℕ = length g.payload.now in
    let long : nat_lt 0 (length g.payload.now) ≡ true
    = both_are (nat_lt 0 (length g.payload.now)) (not (nat_lt (2 ^ 62) (at + length g.payload.now))) y in
    let to : at + length g.payload.now ≤ high_of (heard ++ Took (sent_at g at) ∷ [])
    = subst (λ x. at + length g.payload.now ≤ x) (sym (greatest-push 0 captured_end heard (Took (sent_at g at))))
    (raised_to (nat_lt 0 (length g.payload.now)) (at + length g.payload.now) (high_of heard) long) in
    either_less (in_span (record { from = at; to = at + length g.payload.now }) i) (is_captured segs i) i (high_of (heard ++ Took (sent_at g at) ∷ []))
    (λ e. omega (arith, to, ltb-true i (at + length g.payload.now) (last_is (nat_lt i at) (nat_lt i (at + length g.payload.now)) e)))
    (λ e. omega (arith, w i (omega (arith, m, h)) e, high_more heard (Took (sent_at g at)))) (captured_more segs at g.payload.now i ∙ c)

-- What has no bytes leaves the stream.
pub stream_quiet : (heard : List Heard) (e : Heard) (segs : List Segment) (out : List ℕ) (o : Option Stream) → has_bytes e ≡ false
    → IsStreamFor heard segs out o → IsStreamFor (heard ++ e ∷ []) segs out o
stream_quiet heard e segs out (Some s) h i = (base_more heard e s.base i.0, i.1)
stream_quiet heard e segs out None h i = (quiet_more heard e i.0 h, i.1, i.2)

pub base_begun : (heard : List Heard) (o : Option ℕ) (at b base : ℕ) → IsBase heard o → b ≡ unwrap_or o at → base ≡ b
    → IsAfterSyn heard base ⊎ ((opening_of heard ≡ None) × (base ≡ at))
base_begun heard None at b base i e f = inr (i, f ∙ e)
base_begun heard (Some k) at b base i e f = inl (subst (λ x. IsAfterSyn heard x) (sym (f ∙ e)) i)

pub begins_new : (at : ℕ) (flow : Flow) (o : Option Stream) (s : Stream) → o ≡ None → IsStreamOf [] [] s → s.is_lost ≡ false → s.conflicts ≡ 0
    → ((heard : List Heard) → IsHalf heard flow.half → IsAfterSyn heard s.base ⊎ ((opening_of heard ≡ None) × (s.base ≡ at))) → BeginsAt at flow o (Some s)
begins_new at flow None s e i l z b = (i, l, z, b)
begins_new at flow (Some t) s e i l z b = absurd (cc)

pub begins_same : (at : ℕ) (flow : Flow) (o : Option Stream) (s : Stream) → o ≡ Some s → BeginsAt at flow o o
begins_same at flow (Some t) s e = refl
begins_same at flow None s e = absurd (cc)

-- as it was and as it is
since_same : (F : ℕ → List ℕ → ℕ) (out : List ℕ) (s s' : Stream) → s'.base ≡ s.base → s'.resumed ≡ s.resumed
    → F s.resumed (since_hole out s) ≡ F s'.resumed (since_hole out s')
since_same F out s s' b r =
    ap (λ n. F n (drop (n - s.base) out)) (sym r) ∙ ap (λ n. F s'.resumed (drop (s'.resumed - n) out)) (sym b)

counted_one : (segs : List Segment) (out : List ℕ) (s s' : Stream) (at : ℕ) (bytes : List ℕ) → IsStreamOf segs out s → s.is_lost ≡ false → s'.base ≡ s.base
    → s'.resumed ≡ s.resumed → s'.conflicts ≡ min (2 ^ 64 - 1) (s.conflicts + conflicts_with out s at bytes)
    → s'.conflicts ≡ min (2 ^ 64 - 1) (s.conflicts + differing (first_held false segs s'.resumed (since_hole out s')) at bytes (s'.base + length out))
counted_one segs out s s' at bytes i l b r e =
    let since : List ℕ = since_hole out s in
    e ∙ ap (λ x. min (2 ^ 64 - 1) (s.conflicts + unless_probe at (length bytes) (next_of s.window) x))
    (conflicts_add_up segs s.resumed since (next_of s.window) (seen s.window) at bytes
    (taken_since segs s.base s.resumed out (next_of s.window) (seen s.window) i.resumed i.reached (i.taken l))
    ∙ ap (λ n. conflicts (first_known segs s.resumed n) at bytes) (next_since segs out s i)
    ∙ since_same (λ k x. conflicts (first_known segs k (k + length x)) at bytes) out s s' b r)
    ∙ ap (λ n. min (2 ^ 64 - 1) (s.conflicts + differing (first_held false segs s'.resumed (since_hole out s')) at bytes n))
    (i.next_is ∙ ap (λ k. k + length out) (sym b))

-- A gap is final, and nothing is ahead.
counted_lost : (segs : List Segment) (out : List ℕ) (s s' : Stream) (at : ℕ) (bytes : List ℕ) → IsStreamOf segs out s → s.is_lost ≡ true → s'.base ≡ s.base
    → s'.resumed ≡ s.resumed → s'.conflicts ≡ min (2 ^ 64 - 1) (s.conflicts + conflicts_with out s at bytes)
    → s'.conflicts ≡ min (2 ^ 64 - 1) (s.conflicts + differing (kept s'.resumed (since_hole out s')) at bytes (s'.base + length out))
counted_lost segs out s s' at bytes i l b r e =
    let z : conflicts (held (next_of s.window) (seen s.window)) at bytes ≡ 0 = conflicts_none (next_of s.window) (seen s.window) at bytes (i.none l) in
    let f : conflicts (kept s.resumed (since_hole out s)) at bytes ≡ conflicts (kept s'.resumed (since_hole out s')) at bytes
    = since_same (λ k x. conflicts (kept k x) at bytes) out s s' b r in
    let w : conflicts (kept s.resumed (since_hole out s)) at bytes + conflicts (held (next_of s.window) (seen s.window)) at bytes
    ≡ conflicts (kept s'.resumed (since_hole out s')) at bytes
    = omega (arith, z, f) in
    e ∙ ap (λ x. min (2 ^ 64 - 1) (s.conflicts + unless_probe at (length bytes) (next_of s.window) x)) w
    ∙ ap (λ n. min (2 ^ 64 - 1) (s.conflicts + unless_probe at (length bytes) n (conflicts (kept s'.resumed (since_hole out s')) at bytes)))
    (i.next_is ∙ ap (λ k. k + length out) (sym b))

counted_more : (lost : Bool) (segs : List Segment) (out : List ℕ) (s s' : Stream) (at : ℕ) (bytes : List ℕ) → IsStreamOf segs out s → s.is_lost ≡ lost
    → s'.base ≡ s.base → s'.resumed ≡ s.resumed → s'.conflicts ≡ min (2 ^ 64 - 1) (s.conflicts + conflicts_with out s at bytes)
    → s'.conflicts ≡ min (2 ^ 64 - 1) (s.conflicts + differing (first_held lost segs s'.resumed (since_hole out s')) at bytes (s'.base + length out))
counted_more false segs out s s' at bytes i l b r e = counted_one segs out s s' at bytes i l b r e
counted_more true segs out s s' at bytes i l b r e = counted_lost segs out s s' at bytes i l b r e

same_noted : (segs : List Segment) (o o' : Option Stream) (n n' : Option Noted) → o' ≡ o → n' ≡ n → AreNotedFor segs o n → AreNotedFor segs o' n'
same_noted segs o o' n n' s m a = subst (λ x. AreNotedFor segs o' x) (sym m) (subst (λ x. AreNotedFor segs x n) (sym s) a)

-- ---- a segment

uncounted : (segs : List Segment) (out : List ℕ) (o : Option Stream) (at : ℕ) (bytes : List ℕ) (o' : Option Stream)
    → counts at (length bytes) ≡ false → o' ≡ o → IsCounted segs out o at bytes o'
uncounted segs out o at bytes o' n e = (λ _. e, λ y. absurd (let z : true ≡ false = sym y ∙ n in cc))

counted : (segs : List Segment) (out : List ℕ) (o : Option Stream) (at : ℕ) (bytes : List ℕ) (o' : Option Stream)
    → counts at (length bytes) ≡ true → CountsMore segs out o at bytes o' → IsCounted segs out o at bytes o'
counted segs out o at bytes o' y m = (λ n. absurd (let z : true ≡ false = sym y ∙ n in cc), λ _. m)

fills_same : (was : Bool) (segs : List Segment) (out : List ℕ) (o : Option Stream) (at : ℕ) (bytes : List ℕ) (n n' : Option Noted)
    → counts at (length bytes) ≡ false
    → n' ≡ n → FillsLate was segs out o at bytes n n'
fills_same was segs out o at bytes n n' u e = record {
  from = at;
  starts = λ y. absurd (let z : true ≡ false = sym y ∙ u in cc);
  full = λ l. ap is_full e ∙ l;
  late = λ l x. absurd (let z : true ≡ false = sym x ∙ ap is_full e ∙ l in cc);
  same = λ _. e;
  noted = λ y. absurd (let z : true ≡ false = sym y ∙ u in cc);
}

stays_full : (b : Bool) (n n' : Option Noted) → is_full n' ≡ b → (is_full n' ≡ false → is_full n ≡ false) → is_full n ≡ true → is_full n' ≡ true
stays_full true n n' e f l = e
stays_full false n n' e f l = absurd (let z : true ≡ false = sym l ∙ f e in cc)

needed : (was : Bool) (segs : List Segment) (base next : ℕ) (n : Option Noted) → AreNoted was segs base next n → is_full n ≡ false → (i : ℕ) → next ≤ i
    → is_covered (spans_noted n) i ≡ needs_room was segs n i
needed false segs base next n a o i h = a.all refl o i h
needed true segs base next n a o i h = refl

fills_late : (was : Bool) (segs : List Segment) (out : List ℕ) (s : Stream) (next at : ℕ) (bytes : List ℕ) (n n' : Option Noted) (from : ℕ)
    → counts at (length bytes) ≡ true → next_of s.window ≡ s.base + length out → next ≤ next_of s.window → AreNoted was segs s.base next n
    → IsNotedFrom was s.is_lost at (at + length bytes) (next_of s.window) n from
    → NotesOne (next_of s.window) (record { from = from; to = at + length bytes }) n n'
    → NotesIfRoom s.base (next_of s.window) (record { from = from; to = at + length bytes }) n n'
    → FillsOne s.base (next_of s.window) (record { from = from; to = at + length bytes }) n n' → FillsLate was segs out (Some s) at bytes n n'
fills_late was segs out s next at bytes n n' from k e l a g m z f =
    let span : Span = record { from = from; to = at + length bytes } in
    record {
      from = from;
      starts = λ _. subst (λ x. IsNotedFrom was s.is_lost at (at + length bytes) x n from) e g;
      full = stays_full (is_full n') n n' refl (λ x. (m x).0);
      late = λ o full. (
          subst (λ x. LacksRoom (needs_room was segs n) s.base span x) e
          (no_room (needs_room was segs n) s.base (next_of s.window) span (spans_noted n) (apart_noted n) a.reach
          (λ i h. needed was segs s.base next n a o i (omega (arith, l, h))) (omega (arith, e)) (f o full)));
      same = λ x. absurd (let y : true ≡ false = sym k ∙ x in cc);
      noted = λ _. subst (λ x. IsNotedIfRoom s.base x span n n') e (z.room (omega (arith, e)) a.reach);
    }

late_same : (heard : List Heard) (out : List ℕ) (o : Option Stream) (at : ℕ) (bytes : List ℕ) (o' : Option Stream) → counts at (length bytes) ≡ false → o' ≡ o
    → GivesUp heard out o at bytes o'
late_same heard out o at bytes None n e = tt
late_same heard out o at bytes (Some s') n e = (
  λ l x. absurd (let z : true ≡ false = sym x ∙ ap is_lost_stream e ∙ l in cc),
  λ c. absurd (let z : true ≡ false = sym c ∙ n in cc),
)

some_same : (s s' : Stream) → Some s' ≡ Some s → s' ≡ s
some_same s s' e = cc

resumes_same : (o o' : Option Stream) → o' ≡ o → ResumesFrom o o'
resumes_same None None e = refl
resumes_same (Some s) None e = sym e
resumes_same None (Some s') e = absurd (cc)
resumes_same (Some s) (Some s') e = ap (λ x. x.resumed) (some_same s s' e)

-- one that isn't counted
pub takes_quiet : (g : Given) (flow : Flow) (given : List ℕ) (flow' : Flow) (at : ℕ) → flow'.stream ≡ flow.stream → flow'.noted ≡ flow.noted
    → HearsMore flow.half (Took (sent_at g at)) flow'.half
    → ((heard : List Heard) → IsHalf heard flow.half → IsHeeded heard g at)
    → counts at (length g.payload.now) ≡ false → FlowTakes g flow given flow' (given ++ [])
takes_quiet g flow given flow' at s m h y n = record {
  more = [];
  is = refl;
  none = λ l. (refl, ap is_lost_stream s ∙ l);
  taken = λ heard segs out f. (
      let e : segs ≡ with_segment segs at g.payload.now = ap (λ b. if b then segs ++ record { place = at; bytes = g.payload.now } ∷ [] else segs) (sym n) in
      let quiet = stream_quiet heard (Took (sent_at g at)) segs out flow.stream n f.stream in
      let moved = subst (λ o. IsStreamFor (heard ++ Took (sent_at g at) ∷ []) segs out o) (sym s) quiet in
      let more = subst (λ x. IsStreamFor (heard ++ Took (sent_at g at) ∷ []) segs x flow'.stream) (sym (append-nil out)) moved in
      inl (
        at,
        record {
          half = h heard f.half;
          stream = subst (λ x. IsStreamFor (heard ++ Took (sent_at g at) ∷ []) x (out ++ []) flow'.stream) e more;
          noted = subst (λ x. AreNotedFor x flow'.stream flow'.noted) e (same_noted segs flow.stream flow'.stream flow.noted flow'.noted s m f.noted);
          within = subst (λ x. IsWithin x (next_in flow'.stream) (high_of (heard ++ Took (sent_at g at) ∷ []))) e
              (within_more heard (Took (sent_at g at)) segs flow.stream flow'.stream (omega (arith, ap next_in s)) f.within);
        },
        record {
          heeded = y heard f.half;
          resumed = resumes_same flow.stream flow'.stream s;
          counted = uncounted segs out flow.stream at g.payload.now flow'.stream n s;
          late = late_same (heard ++ Took (sent_at g at) ∷ []) out flow.stream at g.payload.now flow'.stream n s;
          fills = fills_same (is_lost_stream flow.stream) segs (out ++ []) flow'.stream at g.payload.now flow.noted flow'.noted n m;
        },
      ));
}

noted_none : (lost : Bool) (segs : List Segment) (base next : ℕ) (n : Option Noted) → segs ≡ [] → n ≡ None → AreNoted lost segs base next n
noted_none lost segs base next n s e =
    let z : AreNoted lost [] base next None = record {
      only = λ i h x. x;
      all = λ _ full k h. refl;
      past = λ full k j h g x. refl;
      here = refl;
      reach = λ i h x. absurd (let y : true ≡ false = sym x in cc);
    } in
    subst (λ x. AreNoted lost x base next n) (sym s) (subst (λ x. AreNoted lost [] base next x) (sym e) z)

-- ---- what a stream that was there, or began, notes

next_same : (segs segs' : List Segment) (out more : List ℕ) (s s' : Stream) → IsStreamOf segs out s → IsStreamOf segs' (out ++ more) s' → s'.base ≡ s.base
    → more ≡ [] → next_of s'.window ≡ next_of s.window
next_same segs segs' out more s s' i j b e =
    let l : length more ≡ 0 = ap length e in
    omega (arith, i.next_is, j.next_is, b, l, length-append out more)

next_after : (at : ℕ) (bytes : List ℕ) (s : Stream) (more : List ℕ) (s' : Stream) → StreamTakes at bytes s more s' → (segs : List Segment) (out : List ℕ)
    → IsStreamOf segs out s
    → IsNextOf s.is_lost s'.is_lost segs (segs ++ record { place = at; bytes = bytes } ∷ []) (next_of s.window) (next_of s'.window)
next_after at bytes s more s' t segs out i =
    let segs' : List Segment = segs ++ record { place = at; bytes = bytes } ∷ [] in
    let j = t.taken segs out i in
    let same : more ≡ [] → next_of s'.window ≡ next_of s.window = next_same segs segs' out more s s' i j t.base in
    record {
      ends = λ l. ap (is_captured segs') j.next_is ∙ ap is_some (j.stream l).ends;
      falls = λ l x. ap (is_captured segs) (same (t.lost l x).1 ∙ i.next_is) ∙ ap is_some (i.stream l).ends;
      stays = λ l. (t.final l, same (t.none l));
    }

starts_after : (at : ℕ) (bytes : List ℕ) (s : Stream) (more : List ℕ) (s' : Stream) (n : Option Noted) (from : ℕ) → StreamTakes at bytes s more s'
    → NotesFrom s.is_lost at (at + length bytes) (Some s') n from → (segs : List Segment) (out : List ℕ) → IsStreamOf segs out s
    → AreNoted s.is_lost segs s.base (next_of s.window) n
    → IsNotedFrom s.is_lost s'.is_lost at (at + length bytes) (next_of s'.window) n from
starts_after at bytes s more s' n from t f segs out i a =
    let same : more ≡ [] → next_of s'.window ≡ next_of s.window
    = next_same segs (segs ++ record { place = at; bytes = bytes } ∷ []) out more s s' i (t.taken segs out i) t.base in
    f (λ l. ap (is_covered (spans_noted n)) (same (t.none l)) ∙ a.here) (λ l x. (let p = t.lost l x in omega (arith, p.0, same p.1)))

noted_after : (at : ℕ) (bytes : List ℕ) (s : Stream) (more : List ℕ) (s' : Stream) (n n' : Option Noted) (from : ℕ) → StreamTakes at bytes s more s'
    → NotesFrom s.is_lost at (at + length bytes) (Some s') n from → NotesIn from (at + length bytes) (Some s') n n'
    → NotesSomeIn from (at + length bytes) (Some s') n n' → (segs : List Segment) (out : List ℕ) → IsStreamOf segs out s
    → AreNoted s.is_lost segs s.base (next_of s.window) n
    → AreNoted s'.is_lost (segs ++ record { place = at; bytes = bytes } ∷ []) s'.base (next_of s'.window) n'
noted_after at bytes s more s' n n' from t f w z segs out i a =
    let j = t.taken segs out i in
    let l : next_of s.window ≤ next_of s'.window = omega (arith, t.base, i.next_is, j.next_is, length-append out more) in
    noted_more s.is_lost s'.is_lost segs at bytes s'.base (next_of s.window) (next_of s'.window) n n' from l (omega (arith, j.next_is))
    (next_after at bytes s more s' t segs out i) (subst (λ x. AreNoted s.is_lost segs x (next_of s.window) n) (sym t.base) a)
    (starts_after at bytes s more s' n from t f segs out i a) w z

fills_after : (at : ℕ) (bytes : List ℕ) (s : Stream) (more : List ℕ) (s' : Stream) (n n' : Option Noted) (from : ℕ) → counts at (length bytes) ≡ true
    → StreamTakes at bytes s more s' → NotesFrom s.is_lost at (at + length bytes) (Some s') n from → NotesIn from (at + length bytes) (Some s') n n'
    → NotesSomeIn from (at + length bytes) (Some s') n n' → FillsIn from (at + length bytes) (Some s') n n' → (segs : List Segment) (out : List ℕ)
    → IsStreamOf segs out s → AreNoted s.is_lost segs s.base (next_of s.window) n → FillsLate s.is_lost segs (out ++ more) (Some s') at bytes n n'
fills_after at bytes s more s' n n' from u t f w z q segs out i a =
    let j = t.taken segs out i in
    let l : next_of s.window ≤ next_of s'.window = omega (arith, t.base, i.next_is, j.next_is, length-append out more) in
    fills_late s.is_lost segs (out ++ more) s' (next_of s.window) at bytes n n' from u j.next_is l
    (subst (λ x. AreNoted s.is_lost segs x (next_of s.window) n) (sym t.base) a) (starts_after at bytes s more s' n from t f segs out i a) w z q

not_left : (lost far past : Bool) → (not lost && (far && not past)) ≡ false → lost ≡ false → far ≡ true → past ≡ true
not_left lost far true k l f = refl
not_left true far false k l f = absurd (cc)
not_left false true false k l f = absurd (cc)
not_left false false false k l f = absurd (cc)

-- What isn't left out is near, or no segment fills the gap any more.
past_of : (heard : List Heard) (at size next : ℕ) (lost : Bool) → is_left_out heard at size next lost ≡ false → lost ≡ false
    → next + 15728640 < at + size → is_past_filling heard next ≡ true
past_of heard at size next lost k l p =
    not_left lost (nat_lt (next + 15728640) (at + size)) (is_past_filling heard next) k l (lt-ltb (next + 15728640) (at + size) p)

-- A stream that begins is compared from its base on.
begun_resumed : (s : Stream) → IsStreamOf [] [] s → s.resumed ≡ s.base
begun_resumed s i = omega (arith, i.next_is, i.resumed, i.reached)

record TakesBytes (at : ℕ) (bytes : List ℕ) (sent : Sent) (half : Half) (o o1 : Option Stream) (more : List ℕ) (o' : Option Stream)
    (n n' : Option Noted) : Type 0 where
  none : is_lost_stream o ≡ true → (more ≡ []) × (is_lost_stream o' ≡ true)
  taken : (heard : List Heard) (segs : List Segment) (out : List ℕ) → IsStreamFor heard segs out o → IsHalf (heard ++ Took sent ∷ []) half
      → IsStreamFor (heard ++ Took sent ∷ []) (segs ++ record { place = at; bytes = bytes } ∷ []) (out ++ more) o'
  noted : (heard : List Heard) (segs : List Segment) (out : List ℕ) → IsStreamFor heard segs out o → AreNotedFor segs o n
      → AreNotedFor (segs ++ record { place = at; bytes = bytes } ∷ []) o' n'
  counted : (heard : List Heard) (segs : List Segment) (out : List ℕ) → IsStreamFor heard segs out o → CountsMore segs out o at bytes o'
  late : (heard : List Heard) (segs : List Segment) (out : List ℕ) (now : List Heard) → IsStreamFor heard segs out o
      → is_left_out_of now at (length bytes) o1 ≡ false → GivesUp now out o at bytes o'
  fills : (heard : List Heard) (segs : List Segment) (out : List ℕ) → IsStreamFor heard segs out o → AreNotedFor segs o n
      → FillsLate (is_lost_stream o) segs (out ++ more) o' at bytes n n'
  resumed : ResumesFrom o o'
  grows : (heard : List Heard) (segs : List Segment) (out : List ℕ) → IsStreamFor heard segs out o → next_in o ≤ next_in o'

takes_bytes : (at : ℕ) (bytes : List ℕ) (sent : Sent) (flow : Flow) (o o1 : Option Stream) (more : List ℕ) (o2 : Option Stream)
    (n n' : Option Noted) (from : ℕ)
    → counts at (length bytes) ≡ true → has_bytes (Took sent) ≡ true → sent.place ≡ at → BeginsAt at flow o o1 → StreamsOnly at bytes o1 more o2
    → NotesFrom (is_lost_stream o) at (at + length bytes) o2 n from
    → NotesIn from (at + length bytes) o2 n n' → NotesSomeIn from (at + length bytes) o2 n n' → FillsIn from (at + length bytes) o2 n n'
    → TakesBytes at bytes sent flow.half o o1 more o2 n n'
takes_bytes at bytes sent flow None None more o2 n n' from u y p b t f w z q = absurd b
takes_bytes at bytes sent flow (Some s) None more o2 n n' from u y p b t f w z q = absurd b
takes_bytes at bytes sent flow None (Some s1) more None n n' from u y p b t f w z q = absurd t
takes_bytes at bytes sent flow (Some s) (Some s1) more None n n' from u y p b t f w z q = absurd t
takes_bytes at bytes sent flow (Some s) (Some s1) more (Some s2) n n' from u y p b t f w z q = record {
  none = λ l. (let l1 : s1.is_lost ≡ true = ap (λ x. x.is_lost) b ∙ l in (t.none l1, t.final l1));
  taken = λ heard segs out i h. (
      let e : s2.base ≡ s.base = t.base ∙ ap (λ x. x.base) b in (
        subst (λ x. IsBaseOf (heard ++ Took sent ∷ []) x) (sym e) (base_more heard (Took sent) s.base i.0),
        t.taken segs out (subst
            (λ x. IsStreamOf segs out x) (sym b) i.1),
      ));
  noted = λ heard segs out i a. noted_after at bytes s1 more s2 n n' from t
      (subst (λ (x : Stream). NotesFrom x.is_lost at (at + length bytes) (Some s2) n from) (sym b) f) w z segs out
      (subst (λ x. IsStreamOf segs out x) (sym b) i.1) (subst (λ (x : Stream). AreNoted x.is_lost segs x.base (next_of x.window) n) (sym b) a);
  counted = λ heard segs out i. (
      let i1 : IsStreamOf segs out s1 = subst (λ x. IsStreamOf segs out x) (sym b) i.1 in
      counted_more s1.is_lost segs out s1 s2 at bytes i1 refl t.base t.resumed (t.counted segs out i1)
      ∙ ap (λ x. min (2 ^ 64 - 1) (x.conflicts + differing (first_held x.is_lost segs s2.resumed (since_hole out s2)) at bytes (s2.base + length out))) b);
  resumed = t.resumed ∙ ap (λ x. x.resumed) b;
  grows = λ heard segs out i. (
      let i1 : IsStreamOf segs out s1 = subst (λ x. IsStreamOf segs out x) (sym b) i.1 in
      omega (arith, t.base, i1.next_is, (t.taken segs out i1).next_is, length-append out more, ap (λ (x : Stream). next_of x.window) b));
  fills = λ heard segs out i a. subst (λ (x : Stream). FillsLate x.is_lost segs (out ++ more) (Some s2) at bytes n n') b
      (fills_after at bytes s1 more s2 n n' from u t
      (subst (λ (x : Stream). NotesFrom x.is_lost at (at + length bytes) (Some s2) n from) (sym b) f) w z q segs out
      (subst (λ x. IsStreamOf segs out x) (sym b) i.1) (subst (λ (x : Stream). AreNoted x.is_lost segs x.base (next_of x.window) n) (sym b) a));
  late = λ heard segs out now i k. (
      let i1 : IsStreamOf segs out s1 = subst (λ x. IsStreamOf segs out x) (sym b) i.1 in
      let e : next_of s1.window ≡ s2.base + length out = omega (arith, i1.next_is, t.base) in (
        λ l x. (
            let l1 : s1.is_lost ≡ false = ap (λ x. x.is_lost) b ∙ l in
            let p = (t.lost l1 x).0 in (
              omega (arith, p, e),
              subst (λ n. is_past_filling now n ≡ true) e (past_of now at (length bytes) (next_of s1.window) s1.is_lost k l1 p),
            )),
        λ c l. subst (IsNear at (length bytes)) e (t.near l),
      ));
}
takes_bytes at bytes sent flow None (Some s1) more (Some s2) n n' from u y p b t f w z q = record {
  none = λ l. absurd (let e : false ≡ true = l in cc);
  taken = λ heard segs out i h. (
      let u = b.3 (heard ++ Took sent ∷ []) h in
      let v : IsAfterSyn (heard ++ Took sent ∷ []) s2.base ⊎ ((opening_of (heard ++ Took sent ∷ []) ≡ None) × (s2.base ≡ sent.place)) = elim u [
        | inl a ↦ inl (subst (λ x. IsAfterSyn (heard ++ Took sent ∷ []) x) (sym t.base) a)
        | inr a ↦ inr (a.0, t.base ∙ a.1 ∙ sym p)
      ] in
      let i0 : IsStreamOf segs out s1 = subst (λ x. IsStreamOf segs x s1) (sym i.2) (subst (λ x. IsStreamOf x [] s1) (sym i.1) b.0) in (
        record {
          quiet = heard;
          first = sent;
          later = [];
          is = sym (append-nil (heard ++ Took sent ∷ []));
          silent = i.0;
          bytes = y;
          base_is
              = v;
        },
        t.taken segs out i0,
      ));
  noted = λ heard segs out i a. noted_after at bytes s1 more s2 n n' from t
      (subst (λ x. NotesFrom x at (at + length bytes) (Some s2) n from) (sym b.1) f) w z segs out
      (subst (λ x. IsStreamOf segs x s1) (sym i.2) (subst (λ x. IsStreamOf x [] s1) (sym i.1) b.0))
      (noted_none s1.is_lost segs s1.base (next_of s1.window) n i.1 a);
  counted = λ heard segs out i. (
      let i1 : IsStreamOf segs out s1 = subst (λ x. IsStreamOf segs x s1) (sym i.2) (subst (λ x. IsStreamOf x [] s1) (sym i.1) b.0) in
      counted_more false segs out s1 s2 at bytes i1 b.1 t.base t.resumed (t.counted segs out i1)
      ∙ ap (λ x. min (2 ^ 64 - 1) (x + differing (first_held false segs s2.resumed (since_hole out s2)) at bytes (s2.base + length out))) b.2);
  resumed = t.resumed ∙ begun_resumed s1 b.0 ∙ sym t.base;
  grows = λ heard segs out i. omega arith;
  fills = λ heard segs out i a. subst (λ x. FillsLate x segs (out ++ more) (Some s2) at bytes n n') b.1
      (fills_after at bytes s1 more s2 n n' from u t
      (subst (λ x. NotesFrom x at (at + length bytes) (Some s2) n from) (sym b.1) f) w z q segs out
      (subst (λ x. IsStreamOf segs x s1) (sym i.2) (subst (λ x. IsStreamOf x [] s1) (sym i.1) b.0))
      (noted_none s1.is_lost segs s1.base (next_of s1.window) n i.1 a));
  late = λ heard segs out now i k. (
      let i1 : IsStreamOf segs out s1 = subst (λ x. IsStreamOf segs x s1) (sym i.2) (subst (λ x. IsStreamOf x [] s1) (sym i.1) b.0) in
      let e : next_of s1.window ≡ s2.base + length out = omega (arith, i1.next_is, t.base) in (
        λ l x. (
            let p = (t.lost b.1 x).0 in (
              omega (arith, p, e),
              subst (λ n. is_past_filling now n ≡ true) e (past_of now at (length bytes) (next_of s1.window) s1.is_lost k b.1 p),
            )),
        λ c l. subst (IsNear at (length bytes)) e (t.near l),
      ));
}

pub takes_counted : (g : Given) (flow : Flow) (given more : List ℕ) (flow0 flow1 flow2 flow3 : Flow) (at from : ℕ)
    → flow3.half ≡ flow2.half → flow3.stream ≡ flow2.stream
    → NotesFrom (is_lost_stream flow.stream) at (at + length g.payload.now) flow2.stream flow2.noted from
    → NotesIn from (at + length g.payload.now) flow2.stream flow2.noted flow3.noted
    → NotesSomeIn from (at + length g.payload.now) flow2.stream flow2.noted flow3.noted
    → FillsIn from (at + length g.payload.now) flow2.stream flow2.noted flow3.noted
    → flow2.noted ≡ flow1.noted → flow1.noted ≡ flow.noted → flow0.stream ≡ flow.stream → HearsMore flow.half (Took (sent_at g at)) flow0.half
    → ((heard : List Heard) → IsHalf heard flow.half → IsHeeded heard g at)
    → ((heard : List Heard) → IsHalf heard flow1.half → false ≡ is_left_out_of heard at (length g.payload.now) flow1.stream)
    → counts at (length g.payload.now) ≡ true → BeginsAt at flow0 flow0.stream flow1.stream → flow1.half ≡ flow0.half → flow2.half ≡ flow1.half
    → StreamsOnly at g.payload.now flow1.stream more flow2.stream → FlowTakes g flow given flow3 (given ++ more)
takes_counted g flow given more flow0 flow1 flow2 flow3 at from u v p w z q m1 m0 s h d kept y b e f t =
    let r : TakesBytes at g.payload.now (sent_at g at) flow0.half flow0.stream flow1.stream more flow2.stream flow2.noted flow3.noted
    = takes_bytes at g.payload.now (sent_at g at) flow0 flow0.stream flow1.stream more flow2.stream flow2.noted flow3.noted from y y refl b t
    (subst (λ o. NotesFrom (is_lost_stream o) at (at + length g.payload.now) flow2.stream flow2.noted from) (sym s) p) w z q in
    record {
      more = more;
      is = refl;
      none = λ l. (let x = r.none (ap is_lost_stream s ∙ l) in (x.0, ap is_lost_stream v ∙ x.1));
      taken = λ heard segs out i. (
          let now : IsHalf (heard ++ Took (sent_at g at) ∷ []) flow0.half = h heard i.half in
          let k : segs ++ record { place = at; bytes = g.payload.now } ∷ [] ≡ with_segment segs at g.payload.now
          = ap (λ b. if b then segs ++ record { place = at; bytes = g.payload.now } ∷ [] else segs) (sym y) in
          let one = r.taken heard segs out (subst (λ o. IsStreamFor heard segs out o) (sym s) i.stream) now in
          inl (
            at,
            record {
              half = subst (λ x. IsHalf (heard ++ Took (sent_at g at) ∷ []) x) (sym (u ∙ f ∙ e)) now;
              stream = subst (λ x. IsStreamFor (heard ++ Took (sent_at g at) ∷ []) x (out ++ more) flow3.stream) k
                  (subst (λ o. IsStreamFor (heard ++ Took (sent_at g at) ∷ []) (segs ++ record { place = at; bytes = g.payload.now } ∷ [])
                  (out ++ more) o) (sym v) one);
              noted = subst (λ x. AreNotedFor x flow3.stream flow3.noted) k (subst (λ o. AreNotedFor (segs ++ record {
                place = at;
                bytes
                    = g.payload.now;
              } ∷ []) o flow3.noted) (sym v)
                  (r.noted heard segs out (subst (λ o. IsStreamFor heard segs out o) (sym s) i.stream)
                  (same_noted segs flow.stream flow0.stream flow.noted flow2.noted s (m1 ∙ m0) i.noted)));
              within = subst (λ x. IsWithin x (next_in flow3.stream) (high_of (heard ++ Took (sent_at g at) ∷ []))) k
                  (within_one g at heard segs flow.stream flow3.stream y
                  (omega (arith, r.grows heard segs out (subst (λ o. IsStreamFor heard segs out o) (sym s) i.stream), ap next_in s, ap next_in v)) i.within);
            },
            record {
              heeded = d heard i.half;
              resumed = subst (λ o. ResumesFrom flow.stream o) (sym v) (subst (λ o. ResumesFrom o flow2.stream) s r.resumed);
              counted = counted segs out flow.stream at g.payload.now flow3.stream y
                  (subst (λ o. CountsMore segs out flow.stream at g.payload.now o) (sym v)
                  (subst (λ o. CountsMore segs out o at g.payload.now flow2.stream) s
                  (r.counted heard segs out (subst (λ o. IsStreamFor heard segs out o) (sym s) i.stream))));
              late = subst (λ o. GivesUp (heard ++ Took (sent_at g at) ∷ []) out flow.stream at g.payload.now o) (sym v)
                  (subst (λ o. GivesUp (heard ++ Took (sent_at g at) ∷ []) out o at g.payload.now flow2.stream) s
                  (r.late heard segs out (heard ++ Took (sent_at g at) ∷ []) (subst (λ o. IsStreamFor heard segs out o) (sym s) i.stream)
                  (sym (kept (heard ++ Took (sent_at g at) ∷ []) (subst (λ x. IsHalf (heard ++ Took (sent_at g at) ∷ []) x) (sym e) now)))));
              fills = subst (λ o. FillsLate (is_lost_stream flow.stream) segs (out ++ more) o at g.payload.now flow.noted flow3.noted) (sym v)
                  (subst (λ n. FillsLate (is_lost_stream flow.stream) segs (out ++ more) flow2.stream at g.payload.now n flow3.noted) (m1 ∙ m0)
                  (subst (λ o. FillsLate (is_lost_stream o) segs (out ++ more) flow2.stream at g.payload.now flow2.noted flow3.noted) s
                  (r.fills heard segs out (subst (λ o. IsStreamFor heard segs out o) (sym s) i.stream)
                  (same_noted segs flow.stream flow0.stream flow.noted flow2.noted s (m1 ∙ m0) i.noted))));
            },
          ));
    }

-- A stream that was there, or began with a segment whose bytes are left out.
left_stream : (g : Given) (flow : Flow) (at : ℕ) (half : Half) (heard : List Heard) (segs : List Segment) (out : List ℕ) (o o1 : Option Stream)
    → has_bytes (Took (sent_at g at)) ≡ true → half ≡ flow.half → IsHalf (heard ++ Took (sent_at g at) ∷ []) half → BeginsAt at flow o o1
    → IsStreamFor heard segs out o → IsStreamFor (heard ++ Took (sent_at g at) ∷ []) segs out o1
left_stream g flow at half heard segs out (Some s) (Some s1) y e h b i =
    subst (λ (x : Stream). IsStreamFor (heard ++ Took (sent_at g at) ∷ []) segs out (Some x)) (sym b) (base_more heard (Took (sent_at g at)) s.base i.0, i.1)
left_stream g flow at half heard segs out (Some s) None y e h b i = absurd b
left_stream g flow at half heard segs out None None y e h b i = absurd b
left_stream g flow at half heard segs out None (Some s1) y e h b i = (
  record {
    quiet = heard;
    first = sent_at g at;
    later = [];
    is = sym (append-nil (heard ++ Took (sent_at g at) ∷ []));
    silent = i.0;
    bytes = y;
    base_is = b.3 (heard ++ Took (sent_at g at) ∷ []) (subst (λ x. IsHalf (heard ++ Took (sent_at g at) ∷ []) x) e h);
  },
  subst (λ x. IsStreamOf segs x s1) (sym i.2) (subst (λ x. IsStreamOf x [] s1) (sym i.1) b.0),
)

left_noted : (flow : Flow) (at : ℕ) (heard : List Heard) (segs : List Segment) (out : List ℕ) (o o1 : Option Stream) (n : Option Noted) → BeginsAt at flow o o1
    → IsStreamFor heard segs out o → AreNotedFor segs o n → AreNotedFor segs o1 n
left_noted flow at heard segs out (Some s) (Some s1) n b i a = subst (λ (x : Stream). AreNotedFor segs (Some x) n) (sym b) a
left_noted flow at heard segs out (Some s) None n b i a = absurd b
left_noted flow at heard segs out None None n b i a = absurd b
left_noted flow at heard segs out None (Some s1) n b i a = noted_none s1.is_lost segs s1.base (next_of s1.window) n i.1 a

left_conflicts : (flow : Flow) (at : ℕ) (o o1 : Option Stream) → BeginsAt at flow o o1 → conflicts_in o1 ≡ conflicts_in o
left_conflicts flow at (Some s) (Some s1) b = ap (λ (x : Stream). x.conflicts) b
left_conflicts flow at (Some s) None b = absurd b
left_conflicts flow at None None b = absurd b
left_conflicts flow at None (Some s1) b = b.2

left_resumed : (flow : Flow) (at : ℕ) (o o1 : Option Stream) → BeginsAt at flow o o1 → ResumesFrom o o1
left_resumed flow at (Some s) (Some s1) b = ap (λ (x : Stream). x.resumed) b
left_resumed flow at (Some s) None b = absurd b
left_resumed flow at None None b = absurd b
left_resumed flow at None (Some s1) b = begun_resumed s1 b.0

left_next : (flow : Flow) (at : ℕ) (o o1 : Option Stream) → BeginsAt at flow o o1 → next_in o ≤ next_in o1
left_next flow at (Some s) (Some s1) b = omega (arith, ap (λ (x : Stream). next_of x.window) b)
left_next flow at (Some s) None b = absurd b
left_next flow at None None b = absurd b
left_next flow at None (Some s1) b = omega arith

left_lost : (flow : Flow) (at : ℕ) (o o1 : Option Stream) → BeginsAt at flow o o1 → is_lost_stream o ≡ true → is_lost_stream o1 ≡ true
left_lost flow at (Some s) (Some s1) b l = ap (λ (x : Stream). x.is_lost) b ∙ l
left_lost flow at (Some s) None b l = absurd b
left_lost flow at None None b l = absurd b
left_lost flow at None (Some s1) b l = absurd (let z : false ≡ true = l in cc)

-- one whose bytes are left out
pub takes_left : (g : Given) (flow : Flow) (given : List ℕ) (flow0 flow1 : Flow) (at : ℕ) → flow0.stream ≡ flow.stream → flow1.noted ≡ flow.noted
    → flow1.half ≡ flow0.half → HearsMore flow.half (Took (sent_at g at)) flow0.half
    → ((heard : List Heard) → IsHalf heard flow.half → IsHeeded heard g at)
    → ((heard : List Heard) → IsHalf heard flow1.half → true ≡ is_left_out_of heard at (length g.payload.now) flow1.stream)
    → counts at (length g.payload.now) ≡ true → BeginsAt at flow0 flow0.stream flow1.stream → FlowTakes g flow given flow1 (given ++ [])
takes_left g flow given flow0 flow1 at s m e h d left y b = record {
  more = [];
  is = refl;
  none = λ l. (refl, left_lost flow0 at flow0.stream flow1.stream b (ap is_lost_stream s ∙ l));
  taken = λ heard segs out i. (
      let now : IsHalf (heard ++ Took (sent_at g at) ∷ []) flow0.half = h heard i.half in
      let half : IsHalf (heard ++ Took (sent_at g at) ∷ []) flow1.half = subst (λ x. IsHalf (heard ++ Took (sent_at g at) ∷ []) x) (sym e) now in
      let old : IsStreamFor heard segs out flow0.stream = subst (λ o. IsStreamFor heard segs out o) (sym s) i.stream in
      inr (inl (
        at,
        record {
          half = half;
          stream = left_stream g flow0 at flow0.half heard segs out flow0.stream flow1.stream y refl now b old;
          noted = subst (λ n. AreNotedFor segs flow1.stream n) (sym m)
              (left_noted flow0 at heard segs out flow0.stream flow1.stream flow.noted b old (subst (λ o. AreNotedFor segs o flow.noted) (sym s) i.noted));
          within = within_more heard (Took (sent_at g at)) segs flow.stream flow1.stream
              (omega (arith, left_next flow0 at flow0.stream flow1.stream b, ap next_in s)) i.within;
        },
        d heard i.half,
        refl,
        record {
          counts = y;
          is = sym (left (heard ++ Took (sent_at g at) ∷ []) half);
          resumed = subst (λ o. ResumesFrom o flow1.stream) s (left_resumed flow0 at flow0.stream flow1.stream b);
          conflicts = left_conflicts flow0 at flow0.stream flow1.stream b ∙ ap conflicts_in s;
          noted = m;
        },
      )));
}

-- an acknowledgement
pub hears_one : (number : ℕ) (opens : Bool) (flow flow' : Flow) (o : Option ℕ) → flow'.stream ≡ flow.stream → flow'.noted ≡ flow.noted
    → IfSome o (λ at. HearsMore flow.half (Acked (record { number = number; opens = opens; place = at })) flow'.half)
    → IfSome o (λ at. (heard : List Heard) → IsHalf heard flow.half → is_unsent heard at ≡ false)
    → (o ≡ None → (heard : List Heard) → IsHalf heard flow.half → IsUnsent heard number true) → (o ≡ None → flow'.half ≡ flow.half)
    → (heard : List Heard) (segs : List Segment) (out : List ℕ) → IsFlow heard segs out flow → HasHeard number opens heard segs out flow'
hears_one number opens flow flow' (Some at) s m h y r k heard segs out f =
    let e : Heard = Acked (record { number = number; opens = opens; place = at }) in
    inl (
      at,
      record {
        half = h heard f.half;
        stream = subst (λ o. IsStreamFor (heard ++ e ∷ []) segs out o) (sym s) (stream_quiet heard e segs out flow.stream refl f.stream);
        noted = same_noted segs flow.stream flow'.stream flow.noted flow'.noted s m f.noted;
        within = within_more heard e segs flow.stream flow'.stream (omega (arith, ap next_in s)) f.within;
      },
      y heard f.half,
    )
hears_one number opens flow flow' None s m h y r k heard segs out f = inr (
  r refl heard f.half,
  record {
    half = subst (λ x. IsHalf heard x) (sym (k refl)) f.half;
    stream = subst (λ o. IsStreamFor heard segs out o) (sym s) f.stream;
    noted = same_noted segs flow.stream flow'.stream flow.noted flow'.noted s m f.noted;
    within = within_same heard segs flow.stream flow'.stream s f.within;
  },
)

-- one that is passed over
pub takes_refused : (g : Given) (flow : Flow) (given : List ℕ) (flow' : Flow) → flow'.stream ≡ flow.stream → flow'.noted ≡ flow.noted → flow'.half ≡ flow.half
    → ((heard : List Heard) → IsHalf heard flow.half → IsPassedBy heard g true) → FlowTakes g flow given flow' (given ++ [])
takes_refused g flow given flow' s m h r = record {
  more = [];
  is = refl;
  none = λ l. (refl, ap is_lost_stream s ∙ l);
  taken = λ heard segs out f. inr (inr (
    r heard f.half,
    refl,
    record {
      half = subst (λ x. IsHalf heard x) (sym h) f.half;
      stream = subst (λ o. IsStreamFor heard segs out o) (sym s) f.stream;
      noted = same_noted segs flow.stream flow'.stream flow.noted flow'.noted s m f.noted;
      within = within_same heard segs flow.stream flow'.stream s f.within;
    },
    s,
    m,
  ));
}

pub notes_at_end : (at «end» : ℕ) (s : Stream) (o : Option Stream) (n : Option Noted) → o ≡ Some s → «end» ≤ next_of s.window → NotesIn at «end» o n n
notes_at_end at «end» s o n e h = subst (λ x. NotesIn at «end» x n n) (sym e) (notes_none (next_of s.window) at «end» n h)

-- what is noted now, at the places of the stream
placed : (P : ℕ → ℕ → Type 0) (base next : ℕ) (s : Stream) → base ≡ s.base → next ≡ next_of s.window → P base next → P s.base (next_of s.window)
placed P base next s b n p = subst (λ k. P k (next_of s.window)) b (subst (λ k. P base k) n p)

pub notes_there : (at «end» base next : ℕ) (o : Option Stream) (s : Stream) (m : Option Noted) (n n1 : Noted) → o ≡ Some s → base ≡ s.base
    → next ≡ next_of s.window → m ≡ Some n
    → NotesBoth (record { from = base; to = next }) (record { from = at; to = «end» }) n n1 → NotesIn at «end» o m (Some n1)
notes_there at «end» base next o s m n n1 e b k f both =
    subst (λ x. NotesIn at «end» x m (Some n1)) (sym e) (subst (λ x. NotesIn at «end» (Some s) x (Some n1)) (sym f)
    (placed (λ x y. NotesOne y (record { from = at; to = «end» }) (Some n) (Some n1)) base next s b k (notes_more base next at «end» n n1 both)))

pub some_at_end : (at «end» : ℕ) (s : Stream) (o : Option Stream) (n : Option Noted) → o ≡ Some s → «end» ≤ next_of s.window → NotesSomeIn at «end» o n n
some_at_end at «end» s o n e h = subst (λ x. NotesSomeIn at «end» x n n) (sym e) (same_if_room s.base (next_of s.window) at «end» n h)

pub some_there : (at «end» base next : ℕ) (o : Option Stream) (s : Stream) (m : Option Noted) (n n1 : Noted) → o ≡ Some s → base ≡ s.base
    → next ≡ next_of s.window → m ≡ Some n → next < «end»
    → AddsBothIfRoom (record { from = base; to = next }) (record { from = at; to = «end» }) (spans_in n) (spans_in n1)
    → NotesSomeIn at «end» o m (Some n1)
some_there at «end» base next o s m n n1 e b k f l a =
    subst (λ x. NotesSomeIn at «end» x m (Some n1)) (sym e) (subst (λ x. NotesSomeIn at «end» (Some s) x (Some n1)) (sym f)
    (placed (λ x y. NotesIfRoom x y (record { from = at; to = «end» }) (Some n) (Some n1)) base next s b k
    (notes_if_room base next at «end» (Some n) (Some n1) l a)))

pub some_at_first : (at «end» base next : ℕ) (o : Option Stream) (s : Stream) (m : Option Noted) (n n1 : Noted) → o ≡ Some s → base ≡ s.base
    → next ≡ next_of s.window → m ≡ None → next < «end» → ((i : ℕ) → is_covered (spans_in n) i ≡ false)
    → AddsBothIfRoom (record { from = base; to = next }) (record { from = at; to = «end» }) (spans_in n) (spans_in n1)
    → NotesSomeIn at «end» o m (Some n1)
some_at_first at «end» base next o s m n n1 e b k f l z a =
    subst (λ x. NotesSomeIn at «end» x m (Some n1)) (sym e) (subst (λ x. NotesSomeIn at «end» (Some s) x (Some n1)) (sym f)
    (placed (λ x y. NotesIfRoom x y (record { from = at; to = «end» }) None (Some n1)) base next s b k
    (first_if_room base next at «end» n n1 l z a)))

pub fills_at_first : (at «end» base next : ℕ) (o : Option Stream) (s : Stream) (m : Option Noted) (n n1 : Noted) → o ≡ Some s → base ≡ s.base
    → next ≡ next_of s.window → m ≡ None → n.is_full ≡ false → ((i : ℕ) → is_covered (spans_in n) i ≡ false)
    → (n.is_full ≡ false → n1.is_full ≡ true → HasNoRoomFor (record { from = base; to = next }) (record { from = at; to = «end» }) (spans_in n))
    → FillsIn at «end» o m (Some n1)
fills_at_first at «end» base next o s m n n1 e b k f u z h =
    subst (λ x. FillsIn at «end» x m (Some n1)) (sym e) (subst (λ x. FillsIn at «end» (Some s) x (Some n1)) (sym f)
    (placed (λ x y. FillsOne x y (record { from = at; to = «end» }) None (Some n1)) base next s b k (fills_first base next at «end» n n1 u z h)))
