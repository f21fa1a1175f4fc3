-- How a try at an address ends, by what the end is after it.
use Rattle.std.specs.Prelude.{◌≡◌, ◌==◌, ◌≤◌, ◌||◌, nat_lt, ℕ, Bool, true, false, if◌then◌else◌, is_some, Option, Some, None, ⊤}
use Rattle.bt_end.specs.Ends.{agreed, metadata_of, is_hopeless}
use Rattle.bt_end.specs.Halves.{HalfState}
use Rattle.bt_end.specs.declared.event.Event.{Event}
use Rattle.bt_end.specs.declared.event.Event.TheVariants as event
use Rattle.bt_exchange.specs.declared.talking.Stop.{Stop}
use Rattle.bt_exchange.specs.declared.talking.Stop.TheVariants as stop
use Rattle.bt_fetch.specs.declared.device.Outcome.{Outcome}
use Rattle.bt_fetch.specs.declared.device.Outcome.TheVariants as outcome

-- All of the metadata is there; what came is refused; no block can come any more, though both know the Extension Protocol; the blocks
-- were those of other metadata twice; blocks could come, or not both know that protocol. The others tell of the connection, and not of
-- the end.
abbrev pub IsOutcome : HalfState → Outcome → Type 0
IsOutcome a outcome.Fetched = is_some (metadata_of a.end.part) ≡ true
IsOutcome a (outcome.Refused r) = a.feed.refused ≡ Some r
IsOutcome a outcome.Rejected = (is_hopeless a.end ≡ true) × ((agreed a.end).ext ≡ true)
IsOutcome a outcome.Mismatch = 2 ≤ a.end.mismatches
IsOutcome a other = ⊤

-- The outcome of a try whose exchange stopped so, where memory wasn't refused: by whether both know the Extension Protocol, and whether
-- the peer that announced lacks an id or a size.
abbrev pub outcome_by : Stop → (ext lacks : Bool) → Option Outcome
outcome_by stop.Done ext lacks = Some outcome.Fetched
outcome_by stop.Hopeless ext lacks = Some (if ext then outcome.Rejected else outcome.NoMetadata)
outcome_by stop.Mismatch ext lacks = Some outcome.Mismatch
outcome_by stop.Unasked ext lacks = Some outcome.Unasked
outcome_by stop.Closed ext lacks = Some outcome.Closed
outcome_by stop.Silent ext lacks = Some (if lacks then outcome.NoMetadata else outcome.Silent)
outcome_by stop.Failed ext lacks = Some outcome.Closed
outcome_by (stop.Refused r) ext lacks = Some (outcome.Refused r)
outcome_by stop.Rounds ext lacks = Some (if lacks then outcome.NoMetadata else outcome.Silent)
outcome_by stop.Memory ext lacks = None

-- a size that isn't 1 to `most` was told
abbrev pub is_untaken : Event → (most : ℕ) → Bool
is_untaken (event.Announced id (Some size) begins) most = (size == 0) || nat_lt most size
is_untaken e most = false
