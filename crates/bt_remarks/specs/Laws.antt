-- Which requests are pending, said without a count of events.
use Rattle.std.specs.Prelude.{◌≡◌, ◌≢◌, ℕ, ◌↔◌, Bool, true, false, List, [], ◌∷◌, ◌++◌, Some}
use Rattle.std.specs.List.{list_any}
use Rattle.bt_remarks.specs.declared.events.Side.{Side}
use Rattle.bt_remarks.specs.declared.events.Block.{Block}
use Rattle.bt_remarks.specs.declared.requests.Asked.{Asked}
use Rattle.bt_remarks.specs.Said.{Told, Kind, other, said, asked, cancelled, answered}
use Rattle.bt_remarks.specs.Requests.{is_at, is_cancel}
use Rattle.bt_remarks.specs.Known.{number_after, pending}

-- The event neither asks for the block again, nor answers it with this length.
pub record Leaves (kind : Kind) (side : Side) (index begin n : ℕ) (e : Told) : Type 0 where
  pub not_again : (block : Block) → asked kind (said side e) ≡ Some block → is_at block index begin ≡ false
  pub no_answer : (block : Block) → answered kind (said (other side) e) ≡ Some block → is_at block index begin ≡ true → n ≢ block.length

abbrev pub AllLeave : Kind → Side → ℕ → ℕ → ℕ → List Told → Type 0
AllLeave kind side index begin n [] = Unit {0}
AllLeave kind side index begin n (e ∷ events) = Leaves kind side index begin n e × AllLeave kind side index begin n events

-- whether the event cancels a request of the block and of this length
abbrev pub cancels : Kind → Side → ℕ → ℕ → ℕ → Told → Bool
cancels kind side index begin n e = is_cancel (cancelled kind (said side e)) index begin n

-- An event of the side asked for the block, and no later event asked for it again or answered it. It is marked if a later one cancelled it.
pub record IsPending (kind : Kind) (side : Side) (events : List Told) (index begin : ℕ) (request : Asked) : Type 0 where
  pub later : List Told
  pub event : Told
  pub earlier : List Told
  pub block : Block
  pub split : events ≡ later ++ event ∷ earlier
  pub asks : asked kind (said side event) ≡ Some block
  pub at : is_at block index begin ≡ true
  pub is : request ≡ record {
    number = number_after earlier;
    length = block.length;
    mark = event.mark;
    is_cancelled = list_any (cancels kind side index begin block.length) later;
  }
  pub left : AllLeave kind side index begin block.length later

abbrev pub PendingIsUnanswered : Type 0
PendingIsUnanswered =
    (kind : Kind) (side : Side) (events : List Told) (index begin : ℕ) (request : Asked)
    → (pending kind side events index begin ≡ Some request) ↔ IsPending kind side events index begin request
