-- What a step of an exchange did, and why an exchange stopped, by the counts of its connection and what the end is.
use Rattle.std.specs.Prelude.{◌≡◌, ℕ, zero, suc, ◌+◌, ◌-◌, ◌*◌, ◌<◌, ◌≤◌, ◌^◌, Bool, true, false, not, List, [], ◌∷◌, ◌++◌, length, is_some, Some}
use Rattle.std.specs.Prelude.{Result, Ok, Err}
use Rattle.std.specs.List.{list_all}
use Rattle.bt_wire.specs.declared.item.Item.{Item}
use Rattle.bt_io.specs.Counts.{Grew}
use Rattle.bt_feed.specs.Answers.{IsAnswer}
use Rattle.bt_end.specs.Ends.{EndState, metadata_of, is_hopeless}
use Rattle.bt_end.specs.Halves.{HalfState, takes_memory}
use Rattle.bt_end.specs.declared.event.Event.{Event}
use Rattle.bt_end.specs.declared.event.Event.TheVariants as event
use Rattle.bt_exchange.specs.Connections.{Counts}
use Rattle.bt_exchange.specs.Courses.{Moment, IsMoved, events}
use Rattle.bt_exchange.specs.declared.talking.Step.{Step}
use Rattle.bt_exchange.specs.declared.talking.Step.TheVariants as step
use Rattle.bt_exchange.specs.declared.talking.Stop.{Stop}
use Rattle.bt_exchange.specs.declared.talking.Stop.TheVariants as stop

-- no call failed, and none gave the end
pub record IsCalm (old new : Counts) : Type 0 where
  pub ends : new.ends ≡ old.ends
  pub failed : new.failed ≡ old.failed

-- ---- one step

-- how many items a step handled
abbrev pub items_of : Result Step Stop → ℕ
items_of (Ok (step.Handled e)) = 1
items_of other = 0

-- what its item made of the end
abbrev pub events_of : Result Step Stop → List Event
events_of (Ok (step.Handled e)) = e ∷ []
events_of other = []

-- it read nothing and wrote nothing
abbrev pub is_still : Result Step Stop → Bool
is_still (Ok step.Moved) = false
is_still (Ok other) = true
is_still (Err e) = false

-- one, where no bytes wait to be handled: then the next step makes a call
abbrev pub idle_at : ℕ → ℕ
idle_at zero = 1
idle_at (suc n) = 0

abbrev pub idle : Moment → ℕ
idle m = idle_at (length m.pending)

-- n steps were made: each made a call, or handled an item, or else the step after it makes a call. So n is at most twice the calls
-- and the items, and one. (A count that gets to 2^64 - 1 shows nothing.)
pub record IsMade (n : ℕ) (old new : Moment) : Type 0 where
  pub moved : IsMoved old new
  pub items : length moved.course.items ≤ n
  pub calls : new.seen.counts.calls < 2 ^ 64 - 1 → old.seen.counts.calls ≤ new.seen.counts.calls
  pub steps : new.seen.counts.calls < 2 ^ 64 - 1 →
      n + 2 * old.seen.counts.calls + idle old ≤ 2 * new.seen.counts.calls + length moved.course.items + idle new

-- the last call alone gave the end; the last one alone failed; what came is refused; an item is held for which memory is taken
abbrev pub IsFault : Counts → Counts → HalfState → Stop → Type 0
IsFault old new a stop.Closed = Grew old.ends new.ends × (new.failed ≡ old.failed)
IsFault old new a stop.Failed = Grew old.failed new.failed × (new.ends ≡ old.ends)
IsFault old new a (stop.Refused r) = IsCalm old new × (a.feed.refused ≡ Some r)
IsFault old new a stop.Memory = IsCalm old new × ((item : Item) × IsAnswer a.feed (Ok (Some item)) × (takes_memory item ≡ true))
IsFault old new a other = ⊥

abbrev pub IsStep : Moment → Moment → Result Step Stop → Type 0
IsStep old new (Ok step.Moved) = IsCalm old.seen.counts new.seen.counts
IsStep old new (Ok step.Waited) = IsCalm old.seen.counts new.seen.counts × (new.half ≡ old.half)
IsStep old new (Ok (step.Handled e)) = new.seen ≡ old.seen
IsStep old new (Ok step.Held) = new.seen ≡ old.seen
IsStep old new (Err e) = IsFault old.seen.counts new.seen.counts new.half e

abbrev pub steps_of : {A : Type 0} → Result A Stop → ℕ
steps_of (Ok x) = 1
steps_of (Err e) = 0

-- `events`: a step that handled an item tells what that made of the end
pub record IsAdvanced (old new : Moment) (result : Result Step Stop) : Type 0 where
  pub made : IsMade (steps_of result) old new
  pub once : new.seen.counts.calls ≤ old.seen.counts.calls + 1
  pub items : length made.moved.course.items ≡ items_of result
  pub events : events old.half.end made.moved.course.items ≡ events_of result
  pub still : is_still result ≡ true → (made.moved.got ≡ []) × (made.moved.sent ≡ [])
  pub step : IsStep old new result

-- and it sent nothing
abbrev pub HasListened : Moment → Moment → Result Step Stop → Type 0
HasListened old new result = (a : IsAdvanced old new result) × (a.made.moved.sent ≡ [])

-- ---- bytes that move

-- no byte was moved
abbrev pub IsQuiet : (old new : Moment) → IsMoved old new → Type 0
IsQuiet old new m = (m.got ≡ []) × (m.sent ≡ [])

-- at this time, by the connection's clock, it was the moment since which all is quiet
pub record IsMark (time : ℕ) (old new : Moment) : Type 0 where
  pub since : Moment
  pub before : IsMoved old since
  pub after : IsMoved since new
  pub quiet : IsQuiet since new after
  pub clock : since.seen.counts.clock ≡ time

-- All was quiet for more seconds than these, as the clock counts them, so for as many at least.
abbrev pub IsSilent : ℕ → Moment → Moment → Type 0
IsSilent seconds old new = (time : ℕ) × IsMark time old new × (time + seconds < new.seen.counts.clock)

-- ---- events

-- What the driver of a fetch is told of: all that the peer does for the fetch. Requests, haves, keep-alives and the like aren't.
abbrev pub is_news : Event → Bool
is_news (event.Opened h) = true
is_news (event.Announced id size begins) = true
is_news (event.Block k) = true
is_news (event.Rejected k) = true
is_news event.Fetched = true
is_news event.Mismatched = true
is_news e = false

abbrev pub no_news : Event → Bool
no_news e = not (is_news e)

-- A block of a piece came. An end asks for none (BEP 3, "piece").
abbrev pub is_piece : Event → Bool
is_piece (event.Piece index begin) = true
is_piece e = false

abbrev pub no_piece : Event → Bool
no_piece e = not (is_piece e)

-- none of these items was a block of a piece
abbrev pub has_no_piece : EndState → List (ℕ × Item) → Bool
has_no_piece e items = list_all no_piece (events e items)

-- none of these items was news
abbrev pub has_no_news : EndState → List (ℕ × Item) → Bool
has_no_news e items = list_all no_news (events e items)

-- ---- many steps

-- a fetch goes on: the metadata isn't there, blocks of other metadata didn't come twice, and blocks can come
pub record IsOpen (e : EndState) : Type 0 where
  pub undone : is_some (metadata_of e.part) ≡ false
  pub mismatches : e.mismatches < 2
  pub hopeful : is_hopeless e ≡ false

-- The metadata is there; no block of it can come any more; blocks of other metadata came twice; too much time passed; or the fault of the last
-- step.
abbrev pub IsStopped : ℕ → Moment → Moment → Stop → Type 0
IsStopped until old new stop.Done = IsCalm old.seen.counts new.seen.counts × (is_some (metadata_of new.half.end.part) ≡ true)
IsStopped until old new stop.Hopeless = IsCalm old.seen.counts new.seen.counts × (is_hopeless new.half.end ≡ true)
IsStopped until old new stop.Mismatch = IsCalm old.seen.counts new.seen.counts × (2 ≤ new.half.end.mismatches)
IsStopped until old new stop.Silent = IsCalm old.seen.counts new.seen.counts × (until < new.seen.counts.clock)
IsStopped until old new stop.Rounds = IsCalm old.seen.counts new.seen.counts
IsStopped until old new stop.Unasked = IsCalm old.seen.counts new.seen.counts
IsStopped until old new stop.Closed = IsFault old.seen.counts new.seen.counts new.half stop.Closed
IsStopped until old new stop.Failed = IsFault old.seen.counts new.seen.counts new.half stop.Failed
IsStopped until old new (stop.Refused r) = IsFault old.seen.counts new.seen.counts new.half (stop.Refused r)
IsStopped until old new stop.Memory = IsFault old.seen.counts new.seen.counts new.half stop.Memory

abbrev pub is_done : Stop → Bool
is_done stop.Done = true
is_done other = false

abbrev pub is_unasked : Stop → Bool
is_unasked stop.Unasked = true
is_unasked other = false

abbrev pub stops_unasked : {A : Type 0} → Result A Stop → Bool
stops_unasked (Ok x) = false
stops_unasked (Err e) = is_unasked e

-- the last item was news, the first one, and the fetch goes on; or it stopped
abbrev pub IsTold : ℕ → (old new : Moment) → List Event → Result Event Stop → Type 0
IsTold until old new es (Ok e) = IsCalm old.seen.counts new.seen.counts × IsOpen new.half.end × (is_news e ≡ true)
    × ((earlier : List Event) × (list_all no_news earlier ≡ true) × (es ≡ earlier ++ e ∷ []))
IsTold until old new es (Err e) = IsStopped until old new e

-- It made `steps` steps, at most as many as it may, `left` of which are left, and all of them where it stopped for that. It made no
-- more calls. `until` is the time up to which it waits for news. It stopped for a block of a piece if and only if one came.
pub record IsExchanged (until may left : ℕ) (old new : Moment) (r : Result Event Stop) : Type 0 where
  pub steps : ℕ
  pub made : IsMade steps old new
  pub within : steps + left ≤ may
  pub calls : new.seen.counts.calls + left ≤ old.seen.counts.calls + may
  pub onward : steps_of r ≤ steps
  pub all : r ≡ Err stop.Rounds → left ≡ 0
  pub patient : r ≡ Err stop.Rounds → 0 < steps → new.seen.counts.clock ≤ until
  pub silent : r ≡ Err stop.Silent → has_no_news old.half.end made.moved.course.items ≡ true
  pub unasked : has_no_piece old.half.end made.moved.course.items ≡ not (stops_unasked r)
  pub told : IsTold until old new (events old.half.end made.moved.course.items) r
