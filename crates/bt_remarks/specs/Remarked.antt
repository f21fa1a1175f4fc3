-- The remarks on an event, by the events before it.
use Rattle.std.specs.Prelude.{ℕ, ◌&&◌, ◌||◌, ◌+◌, not, Bool, true, false, List, [], ◌∷◌, Option, Some, None, if◌then◌else◌}
use Rattle.bt_remarks.specs.declared.events.Side.{Side}
use Rattle.bt_remarks.specs.Said.{Message, Have, Request, Told, other, is_same, asked, answered, Kind, Blocks, Metadata}
use Rattle.bt_remarks.specs.declared.events.Remarks.{Remarks}
use Rattle.bt_remarks.specs.declared.tallies.Found.{Found}
use Rattle.bt_remarks.specs.declared.tallies.Tally.{Tally}
use Rattle.bt_remarks.specs.Sets.{is_noted}
use Rattle.bt_remarks.specs.Requests.{is_unasked, is_again}
use Rattle.bt_remarks.specs.Known.{is_choking, has_all, is_named, is_allowed, has_come, pending, may_be_dropped, overflowed}

-- unasked: an answer, known, without a pending request of its block and length
abbrev pub has_unasked : Told → List Told → Bool
has_unasked e earlier =
    e.known && (is_unasked (answered Blocks e.message) (overflowed Blocks (other e.side) earlier) (pending Blocks (other e.side) earlier)
    || is_unasked (answered Metadata e.message) (overflowed Metadata (other e.side) earlier) (pending Metadata (other e.side) earlier))

abbrev pub is_again_of : Kind → Told → List Told → Bool
is_again_of kind e earlier =
    is_again (asked kind e.message) (overflowed kind e.side earlier) (may_be_dropped kind e.side earlier) (pending kind e.side earlier)

-- again: a request, known, of a block with a pending one that wasn't dropped
abbrev pub has_again : Told → List Told → Bool
has_again e earlier = e.known && (is_again_of Blocks e earlier || is_again_of Metadata e earlier)

abbrev pub is_choked : Message → Bool → (ℕ → Bool) → Bool
is_choked (Request block) choking allowed = choking && not (allowed block.index)
is_choked _ choking allowed = false

-- choked: a request, known, while the other side chokes, of a piece that it hasn't allowed fast
abbrev pub has_choked : Told → List Told → Bool
has_choked e earlier = e.known && is_choked e.message (is_choking (other e.side) earlier) (is_allowed e.side earlier)

abbrev pub is_elsewhere : Message → Bool → (ℕ → Bool) → (ℕ → Bool) → Bool
is_elsewhere (Have piece) all named come = is_noted piece && not all && not (named piece) && not (come piece)
is_elsewhere _ all named come = false

-- elsewhere: a have, known, after no have-all, of a piece that the side hasn't named, and of which no block has come to it
abbrev pub has_elsewhere : Told → List Told → Bool
has_elsewhere e earlier = e.known && is_elsewhere e.message (has_all e.side earlier) (is_named e.side earlier) (has_come e.side earlier)

abbrev pub remarks_on : Told → List Told → Remarks
remarks_on e earlier = record {
  unasked = has_unasked e earlier;
  choked = has_choked e earlier;
  again = has_again e earlier;
  elsewhere = has_elsewhere e earlier;
}

abbrev pub first_of : Option ℕ → ℕ → Option ℕ
first_of (Some first) mark = Some first
first_of None mark = Some mark

abbrev pub found_after : Bool → ℕ → Found → Found
found_after true mark found = record { count = found.count + 1; first = first_of found.first mark }
found_after false mark found = found

abbrev pub tally_after : Remarks → ℕ → Tally → Tally
tally_after remarks mark tally = record {
  unasked = found_after remarks.unasked mark tally.unasked;
  choked = found_after remarks.choked mark tally.choked;
  again = found_after remarks.again mark tally.again;
  elsewhere = found_after remarks.elsewhere mark tally.elsewhere;
}

abbrev pub nothing : Found
nothing = record { count = 0; first = None }

-- how many of a side's events have each remark, and the first one's mark
abbrev pub tally_of : Side → List Told → Tally
tally_of side [] = record { unasked = nothing; choked = nothing; again = nothing; elsewhere = nothing }
tally_of side (e ∷ earlier) = if is_same e.side side then tally_after (remarks_on e earlier) e.mark (tally_of side earlier) else tally_of side earlier
