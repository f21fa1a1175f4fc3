-- What is so of every feed; and for private contracts and the invariant alone, what is known of the bytes in the buffer.
use Rattle.std.specs.Prelude.{◌≡◌, ℕ, ◌+◌, ◌^◌, ◌≤◌, ◌<◌, true, false, List, ◌++◌, length, take, Some, IfSome, Err}
use Rattle.bt_wire.specs.declared.context.Context.{Context}
use Rattle.bt_wire.specs.declared.context.Order.{Order}
use Rattle.bt_wire.specs.declared.fault.Header.{Header}
use Rattle.bt_wire.specs.declared.fault.Header.TheVariants as headers
use Rattle.bt_wire.specs.Faults.{early_fault}
use Rattle.bt_wire.specs.Headers.{header_of}
use Rattle.bt_feed.specs.declared.stage.Stage.{Stage}
use Rattle.bt_feed.specs.declared.stage.Stage.TheVariants as stage
use Rattle.bt_feed.specs.declared.stage.Goal.{Goal}
use Rattle.bt_feed.specs.declared.stage.Goal.TheVariants as goal
use Rattle.bt_feed.specs.declared.progress.Progress.{Progress}
use Rattle.bt_feed.specs.Stages.{IsNumbered, start_of, number_of, limit_of, capacity_of, is_closed}
use Rattle.bt_feed.specs.Feeds.{FeedState, held_of, state_of}
use Rattle.bt_feed.specs.Answers.{IsAnswer}

-- they go on no further than where they are closed
pub record IsPartial (t : Stage) (b : List ℕ) : Type 0 where
  pub opens : (k : ℕ) → k < length b → is_closed t (take k b) ≡ false

-- their header says that the message has n bytes
abbrev pub HasWindow : Stage → List ℕ → ℕ → Type 0
HasWindow (stage.Handshake own) b n = 2 ≤ 1
HasWindow (stage.Message c o s k) b n = (s < 2 ^ 62) × (header_of c o b ≡ headers.Window n)

-- what the first bytes say of a message that starts at s: how many of them are needed, how many bytes it has, or its fault
abbrev pub IsStart : Context → Order → ℕ → List ℕ → Header → Type 0
IsStart c o s b (headers.Need n) = (s < 2 ^ 62) × (header_of c o b ≡ headers.Need n)
IsStart c o s b (headers.Window n) = (s < 2 ^ 62) × (header_of c o b ≡ headers.Window n)
IsStart c o s b (headers.Refused at reason) = early_fault c o s b ≡ Some (record { at = at; reason = reason })

-- what is so of every feed
pub record IsFeed (f : FeedState) : Type 0 where
  pub limit : limit_of f.stage ≤ 1048576
  pub start : start_of f.stage ≤ 2 ^ 62 + 1048580
  pub number : number_of f.stage ≤ start_of f.stage + 1
  pub numbered : IsNumbered f.stage
  pub bound : length f.held ≤ capacity_of f.stage
  pub partial : IsPartial f.stage f.held
  pub refused : IfSome f.refused (λ r. IsAnswer f (Err r))

-- how far the bytes are judged together with what follows them
abbrev pub IsGoal : Stage → List ℕ → Goal → Type 0
IsGoal t b goal.Closed = is_closed t b ≡ true
IsGoal t b (goal.Until n) = (length b < n) × (n ≤ 68) × ((x : List ℕ) → length b + length x < n → is_closed t (b ++ x) ≡ false)
IsGoal t b (goal.Window n) = HasWindow t b n

-- n bytes of the piece were appended, and before each the bytes weren't closed
pub record Fills (t : Stage) (old piece new : List ℕ) (n : ℕ) : Type 0 where
  pub within : n ≤ length piece
  pub held : new ≡ old ++ take n piece
  pub opens : (k : ℕ) → k < n → is_closed t (old ++ take k piece) ≡ false

pub record IsProgress (p : Progress) (buffer : List ℕ) : Type 0 where
  pub limit : limit_of p.stage ≤ 1048576
  pub start : start_of p.stage ≤ 2 ^ 62 + 1048580
  pub number : number_of p.stage ≤ start_of p.stage + 1
  pub numbered : IsNumbered p.stage
  pub bound : length (held_of p buffer) ≤ capacity_of p.stage
  pub partial : IsPartial p.stage (held_of p buffer)
  pub wanted : 0 < p.wanted → HasWindow p.stage (held_of p buffer) p.wanted × (length (held_of p buffer) ≤ p.wanted)
  pub refused : IfSome p.refused (λ r. IsAnswer (state_of p buffer) (Err r))

-- the item is the same, and its bytes are in the buffer
pub record IsSameItem (old new : Progress) : Type 0 where
  pub stage : new.stage ≡ old.stage
  pub refused : new.refused ≡ old.refused
  pub fresh : new.spent ≡ false
