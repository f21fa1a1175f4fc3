-- Requests that got no answer (BEP 6: each request gets its block or a reject, and a choke rejects none by itself).
use Rattle.std.specs.Prelude.{◌≡◌, ℕ, ◌==◌, ◌&&◌, ◌||◌, ◌≤◌, max, is_some, IfSome, Bool, List, ◌∷◌, ◌++◌, length, Option, Some, None, if◌then◌else◌}
use Rattle.std.specs.List.{IsDistinct, list_any}
use Rattle.bt_remarks.specs.declared.events.Side.{Side}
use Rattle.bt_remarks.specs.Said.{Told, other, said, Blocks, Request as AsksFor}
use Rattle.bt_remarks.specs.declared.requests.Asked.{Asked}
use Rattle.bt_remarks.specs.declared.tallies.Request.{Request}
use Rattle.bt_remarks.specs.declared.tallies.Unanswered.{Unanswered}
use Rattle.bt_remarks.specs.Requests.{Pending, is_late}
use Rattle.bt_remarks.specs.Known.{last_choke, pending, overflowed, last_answered}

abbrev pub late_one : Bool → ℕ → Option Asked → Option Asked
late_one closed later None = None
late_one closed later (Some request) = if is_late closed later request then Some request else None

-- those of the pending requests that are late, unless nobody knows
abbrev pub late_of : Bool → Bool → ℕ → Pending → Pending
late_of unknown closed later pending index begin = if unknown then None else late_one closed later (pending index begin)

-- A side's requests of blocks without an answer, though the other side closed first, or answered a later one, or choked after them.
-- None are known if the other side's reading stopped, or if the side ever had too many pending requests.
abbrev pub unanswered : Bool → Bool → Side → List Told → Pending
unanswered closed stopped side events =
    let later = max (last_choke (other side) events) (last_answered Blocks side events) in
    late_of (stopped || overflowed Blocks side events) closed later (pending Blocks side events)

abbrev pub is_same_block : ℕ × ℕ → ℕ × ℕ → Bool
is_same_block x y = x.0 == y.0 && x.1 == y.1

-- The oldest of the requests is this one.
pub record IsOldest (requests : Pending) (first : Request) : Type 0 where
  pub request : Asked
  pub there : requests first.block.index first.block.begin ≡ Some request
  pub length : request.length ≡ first.block.length
  pub mark : request.mark ≡ first.mark
  pub oldest : (i b : ℕ) → IfSome (requests i b) (λ r. request.number ≤ r.number)

abbrev pub IsFirst : Pending → Option Request → Type 0
IsFirst requests None = (index begin : ℕ) → requests index begin ≡ None
IsFirst requests (Some first) = IsOldest requests first

-- There is a list with each block that has a request once, and as many are counted; and the first is the oldest.
pub record AreFoundOf (requests : Pending) (found : Unanswered) : Type 0 where
  pub blocks : List (ℕ × ℕ)
  pub distinct : IsDistinct is_same_block blocks
  pub each : (index begin : ℕ) → list_any (is_same_block (index, begin)) blocks ≡ is_some (requests index begin)
  pub count : found.count ≡ length blocks
  pub first : IsFirst requests found.first

-- By one of the events the side asked for this block; the event has this mark.
pub record IsAsked (side : Side) (events : List Told) (request : Request) : Type 0 where
  pub later : List Told
  pub event : Told
  pub earlier : List Told
  pub split : events ≡ later ++ event ∷ earlier
  pub asks : said side event ≡ AsksFor request.block
  pub mark : event.mark ≡ request.mark
