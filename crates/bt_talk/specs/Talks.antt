-- A connection: what was captured of both sides, and how a segment adds to it.
use Rattle.bt_talk.specs.declared.terms.Terms.{Terms}
use Rattle.std.specs.Prelude.{◌≡◌, ℕ, ◌+◌, ◌-◌, min, ◌^◌, Bool, true, false, not, ◌||◌, ◌&&◌, ◌==◌, nat_le, nat_lt, List, [], ◌∷◌, ◌++◌, length, ◌↔◌}
use Rattle.std.specs.Prelude.{Option, Some, None, is_some, option_map, unwrap_or, if◌then◌else◌}
use Rattle.std.specs.Bool.{then_some}
use Rattle.std.specs.Option.{option_or}
use Rattle.bt_remarks.specs.declared.events.Side.{Side}
use Rattle.bt_remarks.specs.declared.events.Side.TheVariants.{A, B}
use Rattle.bt_remarks.specs.Said.{Told, other, is_same}
use Rattle.bt_packet.specs.declared.tcp.Flags.{Flags}
use Rattle.bt_packet.specs.declared.tcp.Segment.{Segment}
use Rattle.bt_flow.specs.declared.flow.Flow.{Flow}
use Rattle.bt_flow.specs.Flows.{AreGapsOf, HasHole, high_in}
use Rattle.bt_intro.specs.Hellos.{IsStartOf}
use Rattle.bt_intro.specs.Settling.{IsSideOf, is_settled}
use Rattle.bt_tcp.specs.declared.covered.Gaps.{Gaps}
use Rattle.bt_rows.specs.declared.parts.Means.{Means}
use Rattle.bt_talk.specs.declared.direction.Direction.{Direction}
use Rattle.bt_talk.specs.declared.replay.Mark.{Mark}
use Rattle.bt_talk.specs.declared.room.Room.{Room}
use Rattle.bt_talk.specs.declared.rows.Rows.{Rows}
use Rattle.bt_talk.specs.declared.sides.Sides.{Sides}
use Rattle.bt_talk.specs.declared.talk.Talk.{Talk}
use Rattle.bt_talk.specs.declared.watch.Watch.{Watch}
use Rattle.bt_talk.specs.Pasts.{Past, HasSent, IsAcked, no_past}
use Rattle.bt_talk.specs.declared.ends.Ends.{Ends}
use Rattle.bt_talk.specs.declared.closing.Closing.{Closing}
use Rattle.bt_talk.specs.declared.closing.When.{When}
use Rattle.bt_wire.specs.declared.item.Item.{Item}
use Rattle.bt_wire.specs.declared.item.Refusal.{Refusal}
use Rattle.bt_talk.specs.Watching.{IsWatched, tell, with_items}
use Rattle.bt_talk.specs.Rows.{Shown}
use Rattle.bt_talk.specs.Shows.{Appends}
use Rattle.bt_talk.specs.Shown.{AreRowsOfTurn, Deeds, GoesShown, Turn, items_by, newly, no_deeds, told_by}
use Rattle.bt_talk.specs.Closing.{Closes, still_open}
use Rattle.bt_talk.specs.Ends.{ends_by}
use Rattle.bt_talk.specs.Strays.{IsStray, heeded}
use Rattle.bt_talk.specs.Courses.{closes_by, counted, course_of, end_of, gap_rows}
use Rattle.bt_talk.specs.Cuts.{cut_length, cut_after}
use Rattle.bt_talk.specs.Marks.{AreOpenedBy, HasBegun}
use Rattle.bt_talk.specs.Replays.{HasOpened}
use Rattle.bt_talk.specs.Sent.{IsReady, SendsOn, is_wanted}
use Rattle.bt_talk.specs.Stages.{AreItemsIn, IsDirection, IsHeard, IsKnown, IsRefusedIn, is_opening}

-- ---- both sides

abbrev pub direction_in : Side → Sides → Direction
direction_in A s = s.a
direction_in B s = s.b

-- the stream of a side
abbrev pub flow_in : Side → Sides → Flow
flow_in side s = (direction_in side s).flow

-- how many bytes of a side were put together at the first FIN or RST
abbrev pub cut_in : Side → Sides → Option ℕ
cut_in side s = cut_length (direction_in side s).cut

-- what belongs to a side
abbrev pub of_side : Side → Past → Past → Past
of_side A a b = a
of_side B a b = b

abbrev pub are_in_opening : Sides → Bool
are_in_opening s = is_opening s.a.stage

-- This was captured of both sides.
pub record AreSides (terms : Terms) (a b : Past) (s : Sides) : Type 0 where
  pub a_is : IsDirection terms a b s.a
  pub b_is : IsDirection terms b a s.b
  pub stages : is_opening s.a.stage ≡ is_opening s.b.stage
  pub said : IsHeard a b s.a.stage s.b.stage s.watch

-- ---- the opening's end

-- Both sides have described themselves; or they have sent 1 MiB; or 4,096 segments came.
abbrev pub is_over : Bool → ℕ → ℕ → Bool
is_over settled bytes segments = settled || (nat_le 1048576 bytes || nat_le 4096 segments)

-- By what the sides have said in the opening both have described themselves, or they haven't.
abbrev pub HaveDescribed : List ℕ → List ℕ → Bool → Type 0
HaveDescribed front back settled = (x : _) × (y : _) × IsSideOf front x × IsSideOf back y × (settled ≡ is_settled x y)

-- The opening is over, or it isn't.
pub record IsEnd (a b : Past) (segments : ℕ) (over : Bool) : Type 0 where
  pub settled : Bool
  pub described : HaveDescribed a.front b.front settled
  pub is : over ≡ is_over settled (length a.front + length b.front) segments

-- ---- a segment of a side

-- A segment of the first side changes both. Of the other side's stream it changes nothing.
pub record Turns (s : Segment) (terms : Terms) (p q : Past) (d e d' e' : Direction) : Type 0 where
  pub p' : Past
  pub q' : Past
  pub p_is : IsDirection terms p' q' d'
  pub q_is : IsDirection terms q' p' e'
  pub sent : HasSent s (is_opening d.stage) p d.flow p' d'.flow
  pub acked : IsAcked s q q'
  pub stream : e'.flow.stream ≡ e.flow.stream
  pub noted : e'.flow.noted ≡ e.flow.noted

-- all that a side has said up to here is known, or it isn't
abbrev pub IsKnownOf : Side → Past → Past → Sides → Bool → Type 0
IsKnownOf side a b t known = IsKnown (direction_in side t).stage (of_side side a b) (flow_in side t) known

-- These are the items that were judged of a side.
abbrev pub AreItemsOf : Side → Past → Past → Sides → List (ℕ × Item) → Type 0
AreItemsOf side a b t xs = AreItemsIn (direction_in side t).stage (of_side side a b) xs

-- These items of this side, which sent the segment, follow those that it has sent before, and all events that came before, of both sides.
-- All that the other side has said is known or it isn't, once it was heard what the segment acknowledges.
pub record Says (s : Segment) (side : Side) (a b a' b' : Past) (t t' : Sides) : Type 0 where
  pub items : List (ℕ × Item)
  pub known : Bool
  pub known_is : s.flags.rst ≡ false → IsKnownOf (other side) a' b' t' known
  pub are : (before : Side → List (ℕ × Item)) → ((k : Side) → AreItemsOf k a b t (before k))
      → (k : Side) → AreItemsOf k a' b' t' (with_items side items before k)
  pub follow : (events : List Told) (before : Side → List (ℕ × Item)) → IsWatched events before t.watch
      → IsWatched (tell side known items events) (with_items side items before) t'.watch

-- This side sent a segment.
pub record Exchanges (s : Segment) (side : Side) (terms : Terms) (a b : Past) (t t' : Sides) : Type 0 where
  pub a' : Past
  pub b' : Past
  pub is : AreSides terms a' b' t'
  pub sent : HasSent s (are_in_opening t) (of_side side a b) (flow_in side t) (of_side side a' b') (flow_in side t')
  pub acked : IsAcked s (of_side (other side) a b) (of_side (other side) a' b')
  pub stream : (flow_in (other side) t').stream ≡ (flow_in (other side) t).stream
  pub noted : (flow_in (other side) t').noted ≡ (flow_in (other side) t).noted
  pub said : Says s side a b a' b' t t'
  pub shown : GoesShown side said.known said.items t.watch t'.watch

-- The bytes that it adds to its side's stream are ready, if they are wanted.
abbrev pub HasExchanged : Segment → Side → Room → Room → Sides → Sides → Type 0
HasExchanged s side room room' t t' = (terms : Terms) (a b : Past) → AreSides terms a b t → (x : Exchanges s side terms a b t t')
    × (room.out.items ≡ [] → IsReady (are_in_opening t) (is_wanted side room.wanted) (of_side side a b) (of_side side x.a' x.b') room'.out.items)

-- The opening is over, or it isn't.
pub record Settles (terms : Terms) (a b : Past) (t t' : Sides) : Type 0 where
  pub is : AreSides terms a b t'
  pub opening : are_in_opening t ≡ true → IsEnd a b (min (t.segments + 1) (2 ^ 32 - 1)) (not (are_in_opening t'))
  pub counted : are_in_opening t ≡ true → t'.segments ≡ min (t.segments + 1) (2 ^ 32 - 1)

-- While the opening isn't over no row is appended.
pub record Opens (a b : Past) (t t' : Sides) : Type 0 where
  pub quiet : are_in_opening t' ≡ true → Appends [] t.watch.rows t'.watch.rows
  pub opened : are_in_opening t' ≡ false → HasOpened t.marks.items a b t'.a.stage t'.b.stage t'.watch t.watch.rows t'.watch.rows

-- ---- a connection

abbrev pub direction_of : Side → Talk → Direction
direction_of side t = direction_in side t.sides

-- the stream of a side
abbrev pub flow_of : Side → Talk → Flow
flow_of side t = flow_in side t.sides

-- how many bytes of a side were put together at the first FIN or RST
abbrev pub cut_of : Side → Talk → Option ℕ
cut_of side t = cut_in side t.sides

abbrev pub is_in_opening : Talk → Bool
is_in_opening t = are_in_opening t.sides

abbrev pub ends_of : Talk → Ends
ends_of t = t.ends

abbrev pub terms_of : Talk → Terms
terms_of t = t.terms

-- the connection's first packet, once one was taken
abbrev pub began_with : Talk → Option When
began_with t = t.courses.first

abbrev pub closing_of : Talk → Closing
closing_of t = t.closing

-- how many segments came in the opening, up to 2 ^ 32 - 1
abbrev pub segments_of : Talk → ℕ
segments_of t = t.sides.segments

-- what is kept of both sides' items
abbrev pub watch_of : Talk → Watch
watch_of t = t.sides.watch

-- the marks of the opening, of which the oldest stands first
abbrev pub marks_of : Talk → List Mark
marks_of t = t.sides.marks.items

-- the packet with which a side's stream grew last, if a byte of it was captured
abbrev pub grown_with : Side → Talk → Option When
grown_with side t = (course_of side t.courses).grown

-- The side has sent a FIN or a RST.
abbrev pub has_closed : Side → Talk → Bool
has_closed side t = (course_of side t.courses).is_closed

-- how many segments of a side were strays
abbrev pub strays_of : Side → Talk → ℕ
strays_of side t = (course_of side t.courses).strays

-- Memory ran out.
abbrev pub is_lost : Talk → Bool
is_lost t = t.is_lost

-- This was captured of both sides.
abbrev pub IsTalk : Past → Past → Talk → Type 0
IsTalk a b t = AreSides t.terms a b t.sides

-- The connection begins with this segment; nothing of it was taken yet.
pub record IsBegun (terms : Terms) (first : Segment) (t : Talk) : Type 0 where
  pub nothing : IsTalk no_past no_past t
  pub ends : ends_of t ≡ ends_by first
  pub terms_are : terms_of t ≡ terms
  pub opening : is_in_opening t ≡ true
  pub not_closed : closing_of t ≡ still_open
  pub unbegun : began_with t ≡ None
  pub no_segment : segments_of t ≡ 0
  pub watched : IsWatched [] (λ _. []) (watch_of t)
  pub there : is_lost t ≡ false
  pub unmarked : marks_of t ≡ []
  pub unshut : (side : Side) → has_closed side t ≡ false
  pub ungrown : (side : Side) → grown_with side t ≡ None
  pub unstrayed : (side : Side) → strays_of side t ≡ 0

-- ---- a segment of a connection

-- This side sent the segment.
abbrev pub IsSender : Segment → Talk → Side → Type 0
IsSender s t side = (side ≡ A) ↔ (s.source ≡ t.ends.a)

-- So far a side's captured bytes reach, from its handshake on, or from its first byte if it has begun none.
abbrev pub IsReachOf : Side → Past → Past → Talk → ℕ → Type 0
IsReachOf side a b t offset =
    (start : Option ℕ) × IsStartOf (of_side side a b).front start × (offset ≡ high_in (of_side side a b).heard (flow_of side t).stream - unwrap_or start 0)

abbrev pub AreDeedsBy : Bool → Side → Option Refusal → Option Means → Past → Past → Talk → Deeds → Type 0
AreDeedsBy false side before closed a b t d = d ≡ no_deeds
AreDeedsBy true side before closed a b t d =
    (now : Option Refusal) × (offset : ℕ) × IsRefusedIn (direction_of side t).stage (of_side side a b) now × IsReachOf side a b t offset
    × (d ≡ record { refused = newly before now; closed = option_map (λ by. (offset, by)) closed })

-- What a side did with a packet besides items, if one of the sides has begun a handshake: a refusal stands since then, and it closed.
abbrev pub AreDeeds : Side → Option Refusal → Option Means → Past → Past → Talk → Deeds → Type 0
AreDeeds side before closed a b t d = (begun : Bool) × HasBegun a b begun × AreDeedsBy begun side before closed a b t d

-- What the sender of a segment with these flags did with it besides items. Before it the connection was t, and after it t', of which this was captured.
pub record Did (flags : Flags) (side : Side) (a b a' b' : Past) (t t' : Talk) : Type 0 where
  pub deeds : Deeds
  pub before : Option Refusal
  pub before_is : IsRefusedIn (direction_of side t).stage (of_side side a b) before
  pub are : AreDeeds side before (closes_by flags (has_closed side t)) a' b' t' deeds

-- The turn of a segment after the opening: the items that it completes are its sender's, and so is what is done besides.
abbrev pub turn_by : {s : Segment} {flags : Flags} {side : Side} {a b a' b' : Past} {t t' : Talk} → When → Says s side a b a' b' t.sides t'.sides → Did flags side a b a' b' t t' → Turn
turn_by {s} {flags} {side} when says did = record { side = side; known = says.known; when = when; items = says.items; deeds = did.deeds }

-- Rows are appended: those of a turn that follows all events that came before.
pub record ShowsTurn (turn : Turn) (t : Talk) (r r' : Rows) : Type 0 where
  pub shown : (events : List Told) (before : Side → List (ℕ × Item)) → IsWatched events before (watch_of t)
      → (rows : List Shown) × AreRowsOfTurn r.heading turn events rows × Appends rows r r'

-- ---- the marks of the opening

-- A segment of this side came, after which this was captured of both: the mark has how much of the side's stream was put together then, whether no byte that
-- the other side had sent was missing, how far the side's captured bytes reached, and how it closed, if it hadn't closed before.
pub record IsMark (when : When) (side : Side) (closed : Option Means) (a b : Past) (t : Talk) (m : Mark) : Type 0 where
  pub side_is : m.side ≡ side
  pub when_is : m.when ≡ when
  pub length_is : m.length ≡ length (of_side side a b).out
  pub hole : Bool
  pub hole_is : HasHole (of_side (other side) a b).heard (of_side (other side) a b).out (flow_of (other side) t).stream hole
  pub whole : m.is_whole ≡ not hole
  pub high : m.high ≡ high_in (of_side side a b).heard (flow_of side t).stream
  pub closed_is : m.closed ≡ closed

-- The segment has no data, and its side doesn't close with it.
abbrev pub is_plain : List ℕ → Option Means → Bool
is_plain [] None = true
is_plain [] (Some by) = false
is_plain (x ∷ xs) closed = false

abbrev pub IsMarkedBy : Bool → When → Side → Option Means → Past → Past → Talk → List Mark → Type 0
IsMarkedBy true when side closed a b t marks = marks ≡ []
IsMarkedBy false when side closed a b t marks = (m : Mark) × (marks ≡ m ∷ []) × IsMark when side closed a b t m

-- What a segment of this side, with these flags, adds to the marks of the opening: its mark, or nothing if it is plain. Before it the connection was t, and after it t', of which
-- this was captured.
abbrev pub IsMarked : Segment → Flags → When → Side → Past → Past → Talk → Talk → List Mark → Type 0
IsMarked s flags when side a' b' t t' marks =
    let closed = closes_by flags (has_closed side t) in IsMarkedBy (is_plain s.payload.now closed) when side closed a' b' t' marks

-- The side has closed, also with a segment of these flags.
abbrev pub closed_after : Flags → Side → Talk → Side → Bool
closed_after flags side t k = if is_same side k then has_closed k t || (flags.fin || flags.rst) else has_closed k t

-- The segment has the first captured byte of its sender, or the sender's stream grew with it from so many bytes to so many.
abbrev pub grows_by : Segment → Option When → (before after : ℕ) → Bool
grows_by s grown before after = (not s.flags.rst && not (length s.payload.now == 0)) && not (is_some grown) || nat_lt before after

abbrev pub grown_after : Segment → When → Side → (before after : ℕ) → Talk → Side → Option When
grown_after s when side before after t k =
    if is_same side k then option_or (then_some (grows_by s (grown_with k t) before after) when) (grown_with k t) else grown_with k t

-- A stray is counted.
abbrev pub strays_after : Bool → Side → Talk → Side → ℕ
strays_after stray side t k = if is_same side k then counted stray (strays_of k t) else strays_of k t

-- The connection took a segment. In the opening that may end it. A stray closes nothing.
pub record Takes (s : Segment) (when : When) (a b : Past) (t t' : Talk) : Type 0 where
  pub side : Side
  pub is_side : IsSender s t side
  pub a' : Past
  pub b' : Past
  pub is : IsTalk a' b' t'
  pub ends : ends_of t' ≡ ends_of t
  pub terms : terms_of t' ≡ terms_of t
  pub stray : Bool
  pub is_stray : IsStray s (of_side side a b) stray
  pub sent : HasSent s (is_in_opening t) (of_side side a b) (flow_of side t) (of_side side a' b') (flow_of side t')
  pub acked : IsAcked s (of_side (other side) a b) (of_side (other side) a' b')
  pub opening : is_in_opening t ≡ true → IsEnd a' b' (min (segments_of t + 1) (2 ^ 32 - 1)) (not (is_in_opening t'))
  pub counted : is_in_opening t ≡ true → segments_of t' ≡ min (segments_of t + 1) (2 ^ 32 - 1)
  pub after : is_in_opening t ≡ false → is_in_opening t' ≡ false
  pub closes : Closes (heeded stray s.flags) when side a' b' (flow_of A t') (flow_of B t') (closing_of t) (closing_of t')
  pub cut : (k : Side) → cut_of k t' ≡ cut_after (heeded stray s.flags) (closing_of t).closed (length (of_side k a' b').out) (cut_of k t)
  pub stream : (flow_of (other side) t').stream ≡ (flow_of (other side) t).stream
  pub noted : (flow_of (other side) t').noted ≡ (flow_of (other side) t).noted
  pub said : is_in_opening t ≡ false → Says s side a b a' b' t.sides t'.sides
  pub did : is_in_opening t ≡ false → Did (heeded stray s.flags) side a b a' b' t t'
  pub marks : List Mark
  pub marked : is_in_opening t ≡ true → IsMarked s (heeded stray s.flags) when side a' b' t t' marks
  pub kept : is_in_opening t' ≡ true → marks_of t' ≡ marks_of t ++ marks
  pub shut : (k : Side) → has_closed k t' ≡ closed_after (heeded stray s.flags) side t k
  pub began : began_with t' ≡ option_or (began_with t) (Some when)
  pub grown : (k : Side) → grown_with k t' ≡ grown_after s when side (length (of_side side a b).out) (length (of_side side a' b').out) t k
  pub strays : (k : Side) → strays_of k t' ≡ strays_after stray side t k

-- These turns came, the newest first: their items are those that are judged of both sides. In the opening there are none.
pub record HasHeard (turns : List Turn) (a b : Past) (t : Talk) : Type 0 where
  pub items : (side : Side) → AreItemsOf side a b t.sides (items_by side turns)
  pub watched : IsWatched (told_by turns) (λ side. items_by side turns) (watch_of t)
  pub quiet : is_in_opening t ≡ true → turns ≡ []

-- These are the turns of an opening with these marks, which is over.
abbrev pub AreOpened : List Mark → Past → Past → Talk → List Turn → Type 0
AreOpened marks a b t turns = AreOpenedBy marks a b (direction_of A t).stage (direction_of B t).stage turns

-- ---- rows of the opening, and of gaps

-- The connection took a segment in the opening. Rows are appended when that ends.
pub record HasSettled (s : Segment) (when : When) (a b : Past) (t t' : Talk) (took : Takes s when a b t t') (r r' : Rows) : Type 0 where
  pub quiet : is_in_opening t' ≡ true → Appends [] r r'
  pub opened : is_in_opening t' ≡ false → HasOpened (marks_of t ++ took.marks) took.a' took.b' (direction_of A t').stage (direction_of B t').stage (watch_of t') r r'

-- The connection took a segment. These are the rows of it, and the bytes of the side whose stream is wanted.
pub record TakesAll (s : Segment) (when : When) (a b : Past) (t t' : Talk) (r r' : Rows) (wanted : Option Side) (sent : List ℕ) : Type 0 where
  pub took : Takes s when a b t t'
  pub settled : is_in_opening t ≡ true → HasSettled s when a b t t' took r r'
  pub shows : (o : is_in_opening t ≡ false) → ShowsTurn (turn_by when (took.said o) (took.did o)) t r r'
  pub sends : (side : Side) → wanted ≡ Some side → SendsOn (is_in_opening t) (of_side side a b) (is_in_opening t') (of_side side took.a' took.b') sent

-- The row of a side's first gap was appended, if it has one.
pub record ShowsGap (side : Side) (t : Talk) (r r' : Rows) : Type 0 where
  pub gaps : Gaps
  pub start : Option ℕ
  pub are : (a b : Past) → IsTalk a b t → let p = of_side side a b in AreGapsOf p.heard p.segs p.out (flow_of side t) gaps × IsStartOf p.front start
  pub appends : Appends (gap_rows r.heading (end_of side t.courses) side (unwrap_or start 0) gaps.first) r r'
