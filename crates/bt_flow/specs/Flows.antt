-- A direction: what was heard of it, the segments with data that it has taken, and the bytes that it has handed out.
use Rattle.std.specs.Prelude.{◌≡◌, ℕ, ◌+◌, ◌<◌, ◌≤◌, ◌-◌, ◌^◌, Bool, true, false, not, ◌&&◌, List, [], ◌∷◌, ◌++◌, length}
use Rattle.std.specs.Prelude.{Option, Some, None, ◌⊎◌, is_some, min, max, if◌then◌else◌, nat_lt}
use Rattle.bt_tcp.specs.Segments.{Segment, byte_at}
use Rattle.bt_tcp.specs.History.{first_known, kept}
use Rattle.bt_tcp.specs.declared.covered.Span.{Span}
use Rattle.bt_tcp.specs.Covered.{AreApart, AreGaps, IsAlone, in_span, is_covered, no_gaps}
use Rattle.bt_tcp.specs.declared.covered.Gap.{Gap}
use Rattle.bt_tcp.specs.declared.covered.Gaps.{Gaps}
use Rattle.bt_tcp.specs.Heard.{Heard, Sent, Took, Acked, opening_of, high_of, fin_of, acked_of, has_ack, sent_of, IsStart, IsAfterSyn}
use Rattle.bt_tcp.specs.Halves.{IsHalf}
use Rattle.bt_tcp.specs.Acceptable.{IsPassed, IsUnsent, is_passed, is_past_filling, is_unsent}
use Rattle.bt_flow.specs.declared.stream.Stream.{Stream}
use Rattle.bt_flow.specs.declared.noted.Noted.{Noted}
use Rattle.bt_flow.specs.Notes.{AddsSome, AreNoted, IsNotedFrom, NotesOne, FillsOne, ReachBase, spans_noted, is_full}
use Rattle.bt_flow.specs.Wide.{next_of, seen, capacity_of}
use Rattle.bt_flow.specs.declared.flow.Flow.{Flow}
use Rattle.bt_flow.specs.declared.flow.Given.{Given}
use Rattle.bt_flow.specs.Counts.{counts, is_closed_at, from_base}
use Rattle.bt_flow.specs.Streams.{IsStreamOf, StreamPasses, StreamTakes, differing, since_hole}
use Rattle.bt_flow.specs.Views.{AppendsAfter, IsNear}

abbrev pub has_bytes : Heard → Bool
has_bytes (Took s) = counts s.place s.captured
has_bytes (Acked a) = false

-- None of them has bytes.
abbrev pub AreQuiet : List Heard → Type 0
AreQuiet [] = Unit {0}
AreQuiet (e ∷ heard) = (has_bytes e ≡ false) × AreQuiet heard

-- The base follows the SYN, if its number was known at the first captured byte; otherwise it is the place of that (RFC 9293 3.5).
pub record IsBaseOf (heard : List Heard) (base : ℕ) : Type 0 where
  pub quiet : List Heard
  pub first : Sent
  pub later : List Heard
  pub is : heard ≡ (quiet ++ Took first ∷ []) ++ later
  pub silent : AreQuiet quiet
  pub bytes : has_bytes (Took first) ≡ true
  pub base_is : IsAfterSyn (quiet ++ Took first ∷ []) base ⊎ ((opening_of (quiet ++ Took first ∷ []) ≡ None) × (base ≡ first.place))

abbrev pub IsStreamFor : List Heard → List Segment → List ℕ → Option Stream → Type 0
IsStreamFor heard segs out None = AreQuiet heard × (segs ≡ []) × (out ≡ [])
IsStreamFor heard segs out (Some s) = IsBaseOf heard s.base × IsStreamOf segs out s

abbrev pub is_captured : List Segment → ℕ → Bool
is_captured segs i = is_some (byte_at segs i)

-- Captured places from one on are before another.
abbrev pub IsWithin : List Segment → ℕ → ℕ → Type 0
IsWithin segs next high = (i : ℕ) → next ≤ i → is_captured segs i ≡ true → i < high

-- the next place, 0 before the first captured byte
abbrev pub next_in : Option Stream → ℕ
next_in None = 0
next_in (Some s) = next_of s.window

-- Before the first captured byte nothing is noted.
abbrev pub AreNotedFor : List Segment → Option Stream → Option Noted → Type 0
AreNotedFor segs None o = o ≡ None
AreNotedFor segs (Some s) o = AreNoted s.is_lost segs s.base (next_of s.window) o

-- This was heard, these segments were taken, and these bytes were handed out.
-- A hole that was passed counts as a segment with any bytes, which were handed out.
pub record IsFlow (heard : List Heard) (segs : List Segment) (out : List ℕ) (flow : Flow) : Type 0 where
  pub half : IsHalf heard flow.half
  pub stream : IsStreamFor heard segs out flow.stream
  pub noted : AreNotedFor segs flow.stream flow.noted
  -- No captured place from the next one on is past the greatest that was heard of.
  pub within : IsWithin segs (next_in flow.stream) (high_of heard)

abbrev pub is_lost_stream : Option Stream → Bool
is_lost_stream None = false
is_lost_stream (Some s) = s.is_lost

abbrev pub conflicts_in : Option Stream → ℕ
conflicts_in None = 0
conflicts_in (Some s) = s.conflicts

-- how many places the ring has past the eight that each stream has
abbrev pub held_in : Option Stream → ℕ
held_in None = 0
held_in (Some s) = capacity_of s.window - 8

-- A gap is final, and nothing is handed out.
abbrev pub IsLost : Flow → Type 0
IsLost flow = is_lost_stream flow.stream ≡ true

-- one segment more, if its bytes count
abbrev pub with_segment : List Segment → ℕ → List ℕ → List Segment
with_segment segs at bytes = if counts at (length bytes) then segs ++ record { place = at; bytes = bytes } ∷ [] else segs

-- the segment, at its place
abbrev pub sent_at : Given → ℕ → Sent
sent_at g at = record { sequence = g.sequence; syn = g.syn; fin = g.fin; captured = length g.payload.now; size = g.length; place = at }

-- the first captured bytes, except those that are no longer in the memory; once a gap is final only those that were handed out
abbrev pub first_held : Bool → List Segment → ℕ → List ℕ → ℕ → Option ℕ
first_held false segs base out = first_known segs base (base + length out)
first_held true segs base out = kept base out

-- Those bytes of a segment are counted that differ from the first captured ones after the last hole that was passed. A keep-alive has none.
abbrev pub CountsMore : List Segment → List ℕ → Option Stream → ℕ → List ℕ → Option Stream → Type 0
CountsMore segs out o at bytes None = ⊥
CountsMore segs out o at bytes (Some s') =
    s'.conflicts ≡ min (2 ^ 64 - 1) (conflicts_in o + differing (first_held (is_lost_stream o) segs s'.resumed (since_hole out s'))
    at bytes (s'.base + length out))

-- A segment passes no hole: bytes are compared from the same place on, and in a stream that begins from its base on.
abbrev pub ResumesFrom : Option Stream → Option Stream → Type 0
ResumesFrom o None = o ≡ None
ResumesFrom None (Some s') = s'.resumed ≡ s'.base
ResumesFrom (Some s) (Some s') = s'.resumed ≡ s.resumed

-- Bytes that don't count leave the stream as it is. Of others those are counted that differ.
abbrev pub IsCounted : List Segment → List ℕ → Option Stream → ℕ → List ℕ → Option Stream → Type 0
IsCounted segs out o at bytes o' =
    (counts at (length bytes) ≡ false → o' ≡ o) × (counts at (length bytes) ≡ true → CountsMore segs out o at bytes o')

-- A segment isn't kept if it ends more than 15 MiB past a gap that may still be filled.
abbrev pub is_left_out : List Heard → (at size next : ℕ) → (lost : Bool) → Bool
is_left_out heard at size next lost = not lost && (nat_lt (next + 15728640) (at + size) && not (is_past_filling heard next))

abbrev pub is_left_out_of : List Heard → (at size : ℕ) → Option Stream → Bool
is_left_out_of heard at size None = false
is_left_out_of heard at size (Some s) = is_left_out heard at size (next_of s.window) s.is_lost

-- A gap becomes final only with a segment that ends more than 15 MiB past it, if no segment fills it any more.
-- A segment of more bytes than that may be taken all the same.
abbrev pub IsGivenUp : List Heard → (at size next : ℕ) → (was_lost lost : Bool) → Type 0
IsGivenUp heard at size next was_lost lost =
    (was_lost ≡ false → lost ≡ true → (next + 15728640 < at + size) × (is_past_filling heard next ≡ true))
    × (counts at size ≡ true → lost ≡ false → IsNear at size next)

abbrev pub GivesUp : List Heard → List ℕ → Option Stream → ℕ → List ℕ → Option Stream → Type 0
GivesUp heard out o at bytes None = Unit {0}
GivesUp heard out o at bytes (Some s') = IsGivenUp heard at (length bytes) (s'.base + length out) (is_lost_stream o) s'.is_lost

-- handed out, since it is before the next place, or such
abbrev pub or_before : ℕ → (ℕ → Bool) → ℕ → Bool
or_before next is_such i = if nat_lt i next then true else is_such i

-- Such places, from one on, are these spans, which don't touch.
pub record AreSpansOf (is_such : ℕ → Bool) (from : ℕ) (spans : List Span) : Type 0 where
  pub apart : AreApart from spans
  pub covered : (i : ℕ) → from ≤ i → is_covered spans i ≡ is_such i

-- There is no room for a segment if 1,024 spans of such places are past the next place,
-- or if there are 1,024 spans with those handed out as one of them, and the segment touches none of them.
abbrev pub LacksRoom : (ℕ → Bool) → ℕ → Span → ℕ → Type 0
LacksRoom is_such base s next =
    (spans : List Span) × (length spans ≡ 1024) × (((is_such next ≡ false) × AreSpansOf is_such next spans)
    ⊎ (AreSpansOf (or_before next is_such) base spans × IsAlone s spans))

-- the places that need room: the captured ones, but once a gap is final only those that are noted
abbrev pub needs_room : Bool → List Segment → Option Noted → ℕ → Bool
needs_room false segs n = is_captured segs
needs_room true segs n = is_covered (spans_noted n)

abbrev pub LacksRoomFor : (ℕ → Bool) → List ℕ → Option Stream → Span → Type 0
LacksRoomFor is_such out None span = ⊥
LacksRoomFor is_such out (Some s) span = LacksRoom is_such s.base span (s.base + length out)

-- There are 1,024 spans of such places from the next one on, or with those handed out as one of them, and another span touches none of them.
abbrev pub LacksRoomAmong : (ℕ → Bool) → ℕ → Span → ℕ → Type 0
LacksRoomAmong is_such base s next =
    (spans : List Span) × (length spans ≡ 1024) × IsAlone s spans × (AreSpansOf is_such next spans ⊎ AreSpansOf (or_before next is_such) base spans)

-- From the next place on all of a span is noted, or nothing, since there is no room for it among what was noted.
abbrev pub IsNotedIfRoom : ℕ → ℕ → Span → Option Noted → Option Noted → Type 0
IsNotedIfRoom base next s n n' =
    ((i : ℕ) → next ≤ i → is_covered (spans_noted n') i ≡ (if in_span s i then true else is_covered (spans_noted n) i))
    ⊎ (LacksRoomAmong (is_covered (spans_noted n)) base s next × ((i : ℕ) → next ≤ i → is_covered (spans_noted n') i ≡ is_covered (spans_noted n) i))

abbrev pub IsSegmentNoted : List ℕ → Option Stream → Span → Option Noted → Option Noted → Type 0
IsSegmentNoted out None span n n' = n' ≡ n
IsSegmentNoted out (Some s) span n n' = IsNotedIfRoom s.base (s.base + length out) span n n'

-- The place from which on a segment is noted: `was_lost` says whether a gap was final before it came.
abbrev pub StartsAt : Bool → List ℕ → Option Stream → ℕ → ℕ → Option Noted → ℕ → Type 0
StartsAt was_lost out None at «end» n from = from ≡ at
StartsAt was_lost out (Some s) at «end» n from = IsNotedFrom was_lost s.is_lost at «end» (s.base + length out) n from

-- How the table of captured places goes on. Once it is full, some of them aren't noted, and once a gap is final, none of that gap's.
pub record FillsLate (was_lost : Bool) (segs : List Segment) (out : List ℕ) (o : Option Stream) (at : ℕ) (bytes : List ℕ)
    (n n' : Option Noted) : Type 0 where
  -- the place from which on the segment is noted, if its bytes count
  pub from : ℕ
  pub starts : counts at (length bytes) ≡ true → StartsAt was_lost out o at (at + length bytes) n from
  -- It stays full, and becomes full only if it has no room for a segment.
  pub full : is_full n ≡ true → is_full n' ≡ true
  pub late : is_full n ≡ false → is_full n' ≡ true → LacksRoomFor (needs_room was_lost segs n) out o (record { from = from; to = at + length bytes })
  -- Bytes that don't count leave it as it is. A segment whose bytes count is noted from there on, if there is room for it.
  pub same : counts at (length bytes) ≡ false → n' ≡ n
  pub noted : counts at (length bytes) ≡ true → IsSegmentNoted out o (record { from = from; to = at + length bytes }) n n'

-- The segment is passed over, or it isn't.
abbrev pub IsPassedBy : List Heard → Given → Bool → Type 0
IsPassedBy heard g passed = IsPassed heard g.sequence g.syn g.fin (length g.payload.now) g.length passed

-- It isn't, at this place.
abbrev pub IsHeeded : List Heard → Given → ℕ → Type 0
IsHeeded heard g at = is_passed heard g.syn g.fin (length g.payload.now) g.length at ≡ false

-- A segment's bytes are left out. The stream may have begun with it, and is as before otherwise.
pub record IsLeftOut (heard : List Heard) (g : Given) (at : ℕ) (flow flow' : Flow) : Type 0 where
  pub counts : counts at (length g.payload.now) ≡ true
  pub is : is_left_out_of heard at (length g.payload.now) flow'.stream ≡ true
  pub resumed : ResumesFrom flow.stream flow'.stream
  pub conflicts : conflicts_in flow'.stream ≡ conflicts_in flow.stream
  pub noted : flow'.noted ≡ flow.noted

-- The segment was taken at its place.
pub record IsTakenAt (g : Given) (heard : List Heard) (segs : List Segment) (out : List ℕ) (flow : Flow) (more : List ℕ) (flow' : Flow) (at : ℕ) : Type 0 where
  pub heeded : IsHeeded heard g at
  pub resumed : ResumesFrom flow.stream flow'.stream
  pub counted : IsCounted segs out flow.stream at g.payload.now flow'.stream
  pub late : GivesUp (heard ++ Took (sent_at g at) ∷ []) out flow.stream at g.payload.now flow'.stream
  pub fills : FillsLate (is_lost_stream flow.stream) segs (out ++ more) flow'.stream at g.payload.now flow.noted flow'.noted

-- The segment was taken; or it was heard of, but its bytes are left out; or it was passed over, and nothing has changed.
abbrev pub HasTaken : Given → List Heard → List Segment → List ℕ → Flow → List ℕ → Flow → Type 0
HasTaken g heard segs out flow more flow' =
    ((at : ℕ) × IsFlow (heard ++ Took (sent_at g at) ∷ []) (with_segment segs at g.payload.now) (out ++ more) flow'
    × IsTakenAt g heard segs out flow more flow' at)
    ⊎ (((at : ℕ) × IsFlow (heard ++ Took (sent_at g at) ∷ []) segs out flow' × IsHeeded heard g at × (more ≡ [])
    × IsLeftOut (heard ++ Took (sent_at g at) ∷ []) g at flow flow')
    ⊎ (IsPassedBy heard g true × (more ≡ []) × IsFlow heard segs out flow' × (flow'.stream ≡ flow.stream) × (flow'.noted ≡ flow.noted)))

-- The acknowledgement was heard at its place; or it was passed over, and nothing has changed.
abbrev pub HasHeard : ℕ → Bool → List Heard → List Segment → List ℕ → Flow → Type 0
HasHeard number opens heard segs out flow' =
    ((at : ℕ) × IsFlow (heard ++ Acked (record { number = number; opens = opens; place = at }) ∷ []) segs out flow' × (is_unsent heard at ≡ false))
    ⊎ (IsUnsent heard number true × IsFlow heard segs out flow')

-- The bytes that a segment makes ready were appended. Nothing is after a final gap.
pub record FlowTakes (g : Given) (flow : Flow) (given : List ℕ) (flow' : Flow) (given' : List ℕ) : Type 0 where
  pub more : List ℕ
  pub is : given' ≡ given ++ more
  pub none : IsLost flow → (more ≡ []) × IsLost flow'
  pub taken : (heard : List Heard) (segs : List Segment) (out : List ℕ) → IsFlow heard segs out flow → HasTaken g heard segs out flow more flow'

-- The bytes that a segment makes ready are `fresh` and what was appended: with them after `given`, it is as above.
abbrev pub FlowTakesNext : Given → Flow → List ℕ → List ℕ → Flow → List ℕ → Type 0
FlowTakesNext g flow fresh later flow' later' = AppendsAfter fresh later later' (λ more. (given : List ℕ) → FlowTakes g flow given flow' (given ++ more))

-- ---- a hole

-- So many places from one on have no captured byte, at most those before `end`, and as many as can be.
pub record IsHoleTo (segs : List Segment) (next «end» hole : ℕ) : Type 0 where
  pub within : hole ≤ «end» - next
  pub missing : (k : ℕ) → k < hole → is_captured segs (next + k) ≡ false
  pub ends : hole < «end» - next → is_captured segs (next + hole) ≡ true

abbrev pub IsHoleBy : Bool → (ℕ → ℕ) → List Segment → ℕ → ℕ → Type 0
IsHoleBy true end_from segs next hole = hole ≡ 0
IsHoleBy false end_from segs next hole = IsHoleTo segs next (end_from next) hole

-- Before the first captured byte and after a final gap no hole may be passed. `end_from` says up to where it may be, from the next place on.
abbrev pub IsHoleIn : (ℕ → ℕ) → List Segment → List ℕ → Option Stream → ℕ → Type 0
IsHoleIn end_from segs out None hole = hole ≡ 0
IsHoleIn end_from segs out (Some s) hole = IsHoleBy s.is_lost end_from segs (s.base + length out) hole

-- where what is known to be sent ends, or what was acknowledged, if that is given and ends before
abbrev pub sent_within : Option ℕ → List Heard → ℕ → ℕ
sent_within None heard next = sent_of heard next
sent_within (Some acked) heard next = min acked (sent_of heard next)

-- No segment fills a place any more that the other side acknowledged (RFC 9293 3.4).
abbrev pub past_filling : List Heard → ℕ → ℕ
past_filling heard next = if has_ack heard then min (acked_of heard) (sent_of heard next) else 0

-- Bytes are compared from the place after the hole on.
abbrev pub HasResumed : Option Stream → ℕ → Option Stream → Type 0
HasResumed (Some s) count (Some s') = (s'.base ≡ s.base) × (s'.resumed ≡ next_of s.window + count)
HasResumed _ count _ = ⊥

-- At most n bytes of the hole were passed, whether or not a segment may still fill it, and what is ready then was appended.
pub record FlowPasses (n : ℕ) (flow : Flow) (given : List ℕ) (count : ℕ) (flow' : Flow) (given' : List ℕ) : Type 0 where
  pub more : List ℕ
  pub is : given' ≡ given ++ more
  pub counts : (heard : List Heard) (segs : List Segment) (out : List ℕ) → IsFlow heard segs out flow
      → (hole : ℕ) × IsHoleIn (sent_of heard) segs out flow.stream hole × (count ≡ min n hole)
  -- Whatever the passed bytes are, it is as if a segment had brought them. But later segments are only compared with bytes after them.
  pub passed : (heard : List Heard) (segs : List Segment) (out fill : List ℕ) → 0 < count → length fill ≡ count → IsFlow heard segs out flow
      → IsFlow heard (segs ++ record { place = next_in flow.stream; bytes = fill } ∷ []) (out ++ (fill ++ more)) flow'
  pub resumed : 0 < count → HasResumed flow.stream count flow'.stream
  pub none : count ≡ 0 → (flow' ≡ flow) × (more ≡ [])
  pub lost : is_lost_stream flow'.stream ≡ is_lost_stream flow.stream
  pub noted : flow'.noted ≡ flow.noted
  pub conflicts : conflicts_in flow'.stream ≡ conflicts_in flow.stream

-- ---- what is told of it

abbrev pub IsBaseNow : List Heard → Option Stream → Option ℕ → Type 0
IsBaseNow heard None base = IsStart heard base
IsBaseNow heard (Some s) base = (base ≡ Some s.base) × IsBaseOf heard s.base

-- the next place: before the first captured byte the one where the stream may begin
abbrev pub IsPlaceNow : List Heard → List ℕ → Option Stream → Option ℕ → Type 0
IsPlaceNow heard out None place = IsStart heard place
IsPlaceNow heard out (Some s) place = place ≡ Some (s.base + length out)

abbrev pub is_hole_at : List Heard → Option ℕ → Bool
is_hole_at heard None = false
is_hole_at heard (Some next) = nat_lt next (sent_of heard next)

-- Bytes from the next place on are known to be sent.
abbrev pub HasHole : List Heard → List ℕ → Option Stream → Bool → Type 0
HasHole heard out stream hole = (place : Option ℕ) × IsPlaceNow heard out stream place × (hole ≡ is_hole_at heard place)

-- The FIN's place was reached, and its number acknowledged (RFC 9293 3.6).
abbrev pub IsClosed : List Heard → List ℕ → Option Stream → Bool → Type 0
IsClosed heard out stream closed = (place : Option ℕ) × IsPlaceNow heard out stream place × (closed ≡ is_closed_at (fin_of heard) place (acked_of heard))

-- Gaps end where what was sent ends, or the last captured bytes, if that is later.
abbrev pub gaps_end : List Heard → ℕ → ℕ
gaps_end heard next = max (high_of heard) (sent_of heard (max next (high_of heard)))

abbrev pub is_noted : Flow → ℕ → Bool
is_noted flow = is_covered (spans_noted flow.noted)

-- the runs of places from the next one on that aren't noted
pub record AreGapsFrom (heard : List Heard) (segs : List Segment) (flow : Flow) (next : ℕ) (gaps : Gaps) : Type 0 where
  -- Only captured places are noted, and all of them, unless a gap is final or the table is full.
  pub only : (i : ℕ) → next ≤ i → is_noted flow i ≡ true → is_captured segs i ≡ true
  pub all : is_lost_stream flow.stream ≡ false → is_full flow.noted ≡ false → (i : ℕ) → next ≤ i → is_noted flow i ≡ is_captured segs i
  -- Past the first gap all of them are noted, though it is final.
  pub past : is_full flow.noted ≡ false → (i j : ℕ) → next ≤ j → j ≤ i → is_noted flow j ≡ true → is_noted flow i ≡ is_captured segs i
  -- the gaps by their places, and by their offsets from the base
  pub base : ℕ
  pub found : Gaps
  pub base_is : IsBaseNow heard flow.stream (Some base)
  pub found_are : AreGaps (is_noted flow) next (gaps_end heard next) found
  pub is : gaps ≡ from_base base found
  -- The first one begins at the next place, if bytes are known to be sent from there on.
  pub first : next < gaps_end heard next → (gap : Gap) × (gaps.first ≡ Some gap) × (gap.place ≡ next - base)

abbrev pub AreGapsAt : List Heard → List Segment → Flow → Option ℕ → Gaps → Type 0
AreGapsAt heard segs flow None gaps = gaps ≡ no_gaps
AreGapsAt heard segs flow (Some next) gaps = AreGapsFrom heard segs flow next gaps

abbrev pub AreGapsOf : List Heard → List Segment → List ℕ → Flow → Gaps → Type 0
AreGapsOf heard segs out flow gaps = (place : Option ℕ) × IsPlaceNow heard out flow.stream place × AreGapsAt heard segs flow place gaps

abbrev pub high_in : List Heard → Option Stream → ℕ
high_in heard None = 0
high_in heard (Some s) = high_of heard - s.base

-- ---- parts of it

-- The stream is as before, or begins.
abbrev pub BeginsAt : ℕ → Flow → Option Stream → Option Stream → Type 0
BeginsAt at flow (Some s) (Some s') = s' ≡ s
BeginsAt at flow (Some s) None = ⊥
BeginsAt at flow None None = ⊥
BeginsAt at flow None (Some s) =
    IsStreamOf [] [] s × (s.is_lost ≡ false) × (s.conflicts ≡ 0)
    × ((heard : List Heard) → IsHalf heard flow.half → IsAfterSyn heard s.base ⊎ ((opening_of heard ≡ None) × (s.base ≡ at)))

abbrev pub Begins : ℕ → Flow → Flow → Type 0
Begins at flow flow' = BeginsAt at flow flow.stream flow'.stream

abbrev pub StreamsOnly : ℕ → List ℕ → Option Stream → List ℕ → Option Stream → Type 0
StreamsOnly at bytes (Some s) more (Some s') = StreamTakes at bytes s more s'
StreamsOnly at bytes _ more _ = ⊥

abbrev pub StreamOnly : ℕ → List ℕ → Flow → List ℕ → Flow → Type 0
StreamOnly at bytes flow more flow' = StreamsOnly at bytes flow.stream more flow'.stream

-- The same, if after a gap was final the next place isn't noted, and if the segment that makes it final ends past that place.
abbrev pub NotesFrom : Bool → ℕ → ℕ → Option Stream → Option Noted → ℕ → Type 0
NotesFrom was_lost at «end» None n from = from ≡ at
NotesFrom was_lost at «end» (Some s) n from =
    (was_lost ≡ true → is_covered (spans_noted n) (next_of s.window) ≡ false) → (was_lost ≡ false → s.is_lost ≡ true → next_of s.window < «end»)
    → IsNotedFrom was_lost s.is_lost at «end» (next_of s.window) n from

abbrev pub NotesIn : ℕ → ℕ → Option Stream → Option Noted → Option Noted → Type 0
NotesIn at «end» None o o' = o' ≡ o
NotesIn at «end» (Some s) o o' = NotesOne (next_of s.window) (record { from = at; to = «end» }) o o'

-- What was noted still is, and of the span no other places, but all, if there is room for it.
pub record NotesIfRoom (base next : ℕ) (s : Span) (o o' : Option Noted) : Type 0 where
  pub some : AddsSome next s (spans_noted o) (spans_noted o')
  pub reach : base ≤ next → ReachBase base (spans_noted o) → ReachBase base (spans_noted o')
  pub room : base ≤ next → ReachBase base (spans_noted o) → IsNotedIfRoom base next s o o'

abbrev pub NotesSomeIn : ℕ → ℕ → Option Stream → Option Noted → Option Noted → Type 0
NotesSomeIn at «end» None o o' = o' ≡ o
NotesSomeIn at «end» (Some s) o o' = NotesIfRoom s.base (next_of s.window) (record { from = at; to = «end» }) o o'

abbrev pub FillsIn : ℕ → ℕ → Option Stream → Option Noted → Option Noted → Type 0
FillsIn at «end» None o o' = o' ≡ o
FillsIn at «end» (Some s) o o' = FillsOne s.base (next_of s.window) (record { from = at; to = «end» }) o o'

-- No byte is at these places.
abbrev pub MaySkip : ℕ → Option Stream → Type 0
MaySkip count None = ⊥
MaySkip count (Some s) = (s.is_lost ≡ false) × ((k : ℕ) → k < count → seen s.window k ≡ None) × (next_of s.window + count < 2 ^ 64)

abbrev pub Skips : ℕ → Option Stream → List ℕ → Option Stream → List ℕ → Type 0
Skips count (Some s) given (Some s') given' = StreamPasses count s given s' given'
Skips count _ given _ given' = ⊥
