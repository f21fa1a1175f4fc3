-- What the code keeps is what the events show.
use Rattle.std.specs.Prelude.{◌≡◌, ℕ, false, List, ◌∷◌, length}
use Rattle.std.specs.BTreeMap.{btree_map_len}
use Rattle.bt_remarks.specs.declared.events.Side.{Side}
use Rattle.bt_remarks.specs.declared.events.Side.TheVariants.{A, B}
use Rattle.bt_remarks.specs.Said.{Told, other, Kind, Blocks, Metadata}
use Rattle.bt_remarks.specs.declared.halves.Half.{Half}
use Rattle.bt_remarks.specs.declared.requests.Requests.{Requests}
use Rattle.bt_remarks.specs.declared.matcher.Matcher.{Matcher}
use Rattle.bt_remarks.specs.declared.events.Remarks.{Remarks}
use Rattle.bt_remarks.specs.declared.tallies.Tally.{Tally}
use Rattle.bt_remarks.specs.Remarked.{tally_of, tally_after, remarks_on}
use Rattle.bt_remarks.specs.Steps.{has}
use Rattle.bt_remarks.specs.Tables.{request_at}
use Rattle.bt_remarks.specs.Known.{number_after}
use Rattle.bt_remarks.specs.Known.{has_fast, is_choking, last_choke, last_unchoke, has_all, is_named, is_allowed, has_come, pending, pending_count, overflowed, last_answered}

pub record IsRequests (kind : Kind) (side : Side) (events : List Told) (requests : Requests) : Type 0 where
  pub overflowed : requests.overflowed ≡ overflowed kind side events
  pub pending : requests.overflowed ≡ false → (index begin : ℕ) → request_at requests index begin ≡ pending kind side events index begin
  pub count : requests.overflowed ≡ false → btree_map_len requests.pending ≡ pending_count kind side events
  pub answered : requests.overflowed ≡ false → requests.answered ≡ last_answered kind side events

pub record IsHalf (side : Side) (events : List Told) (half : Half) : Type 0 where
  pub fast : half.has_fast ≡ has_fast side events
  pub choking : half.is_choking ≡ is_choking side events
  pub choke : half.choke ≡ last_choke side events
  pub unchoke : half.unchoke ≡ last_unchoke side events
  pub all : half.has_all ≡ has_all side events
  pub named : (k : ℕ) → has half.named k ≡ is_named side events k
  pub allowed : (k : ℕ) → has half.allowed k ≡ is_allowed side events k
  pub came : (k : ℕ) → has half.came k ≡ has_come side events k
  pub blocks : IsRequests Blocks side events half.blocks
  pub metadata : IsRequests Metadata side events half.metadata

-- One event more, of the first half's side.
pub record IsTurn (e : Told) (events : List Told) (found : Remarks) (half half' : Half) (old new : Tally) : Type 0 where
  pub remarks : found ≡ remarks_on e events
  pub mine : IsHalf e.side (e ∷ events) half
  pub theirs : IsHalf (other e.side) (e ∷ events) half'
  pub tally : new ≡ tally_after (remarks_on e events) e.mark old

-- the same, after any events that the halves show
abbrev pub Turns : Told → ℕ → Remarks → Half → Half → Half → Half → Tally → Tally → Type 0
Turns e number found mine mine' theirs theirs' old new =
    (events : List Told) → IsHalf e.side events mine → IsHalf (other e.side) events theirs → number ≡ number_after events
    → IsTurn e events found mine' theirs' old new

-- What a half showed, it still shows.
abbrev pub Stays : Half → Half → Type 0
Stays half half' = (side : Side) → (events : List Told) → IsHalf side events half → IsHalf side events half'

pub record IsMatched (events : List Told) (matcher : Matcher) : Type 0 where
  pub count : matcher.events ≡ length events
  pub a : IsHalf A events matcher.a
  pub b : IsHalf B events matcher.b
  pub tally_a : matcher.tally_a ≡ tally_of A events
  pub tally_b : matcher.tally_b ≡ tally_of B events
