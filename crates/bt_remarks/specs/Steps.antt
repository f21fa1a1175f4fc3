-- One event, as the code keeps what it knows of a side.
use Rattle.std.specs.Prelude.{◌≡◌, ℕ, ◌-◌, ◌^◌, ◌&&◌, ◌||◌, not, nat_lt, Bool, false, None}
use Rattle.bt_remarks.specs.Said.{Message, asked_block, asked_metadata, cancelled_block, answered_block, answered_metadata}
use Rattle.bt_remarks.specs.declared.halves.Half.{Half}
use Rattle.bt_remarks.specs.Known.{fast_after, choking_after, choke_after, unchoke_after, all_after, named_after, allowed_after, came_after}
use Rattle.bt_remarks.specs.Sets.{has_bit}
use Rattle.bt_remarks.specs.declared.requests.Asked.{Asked}
use Rattle.bt_remarks.specs.Requests.{is_unasked, is_dropped, is_again}
use Rattle.bt_remarks.specs.Tables.{request_at, IsAfter}
use Rattle.bt_remarks.specs.declared.pieces.PieceSet.{PieceSet}
use Rattle.bt_remarks.specs.declared.events.Remarks.{Remarks}
use Rattle.bt_remarks.specs.declared.tallies.Found.{Found}
use Rattle.bt_remarks.specs.declared.tallies.Tally.{Tally}

abbrev pub has : PieceSet → ℕ → Bool
has pieces = has_bit pieces.field.items

-- whether an answer has no pending request of this side
abbrev pub unasks : Half → Message → Bool
unasks half message =
    is_unasked (answered_block message) half.blocks.overflowed (request_at half.blocks)
    || is_unasked (answered_metadata message) half.metadata.overflowed (request_at half.metadata)

-- whether a pending request of this side may have been dropped
abbrev pub drops : Half → Half → Asked → Bool
drops half theirs = is_dropped (half.has_fast && theirs.has_fast) theirs.is_choking theirs.unchoke

-- whether a request of this side is of a block with a pending one that wasn't dropped
abbrev pub asks_again : Half → Half → Message → Bool
asks_again half theirs message =
    is_again (asked_block message) half.blocks.overflowed (drops half theirs) (request_at half.blocks)
    || is_again (asked_metadata message) half.metadata.overflowed (λ request. false) (request_at half.metadata)

-- The side said the first event, and heard the second.
pub record IsHalfAfter (says hears : Message) (known : Bool) (number mark : ℕ) (old new : Half) : Type 0 where
  pub fast : new.has_fast ≡ fast_after says old.has_fast
  pub choking : new.is_choking ≡ choking_after says old.is_choking
  pub choke : new.choke ≡ choke_after says number old.choke
  pub unchoke : new.unchoke ≡ unchoke_after says old.is_choking number old.unchoke
  pub all : new.has_all ≡ all_after says known old.has_all
  pub named : (k : ℕ) → has new.named k ≡ named_after says known k (has old.named k)
  pub allowed : (k : ℕ) → has new.allowed k ≡ allowed_after hears k (has old.allowed k)
  pub came : (k : ℕ) → has new.came k ≡ came_after hears k (has old.came k)
  pub blocks : IsAfter (asked_block says) (cancelled_block says) (answered_block hears) number mark old.blocks new.blocks
  pub metadata : IsAfter (asked_metadata says) None (answered_metadata hears) number mark old.metadata new.metadata

-- whether an event can be counted, if it has the remark
abbrev pub found_has_room : Bool → Found → Bool
found_has_room remarked found = not remarked || nat_lt found.count (2 ^ 64 - 1)

abbrev pub tally_has_room : Remarks → Tally → Bool
tally_has_room remarks tally =
    found_has_room remarks.unasked tally.unasked && found_has_room remarks.choked tally.choked && found_has_room remarks.again tally.again
    && found_has_room remarks.elsewhere tally.elsewhere
