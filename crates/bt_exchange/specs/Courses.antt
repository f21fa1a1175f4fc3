-- What an end does over a connection.
use Rattle.std.specs.Prelude.{◌≡◌, ℕ, List, [], ◌∷◌, ◌++◌, Option, Some, None, Result, Ok, Err}
use Rattle.std.specs.Io.KnownBytes.{Consumes, Appends, Keeps}
use Rattle.bt_wire.specs.declared.item.Item.{Item}
use Rattle.bt_feed.specs.Pumps.{IsFed}
use Rattle.bt_end.specs.Ends.{EndState, react, spelled}
use Rattle.bt_end.specs.Events.{event_of}
use Rattle.bt_end.specs.Halves.{HalfState}
use Rattle.bt_end.specs.declared.event.Event.{Event}
use Rattle.bt_exchange.specs.Connections.{Seen}

-- what was read is there
abbrev pub Fills : {E : Type 0} → Seen → Seen → Result (Option ℕ) E → List ℕ → Type 0
Fills old new (Ok (Some n)) bytes = Consumes old.coming new.coming bytes × (new.gone ≡ old.gone)
Fills old new (Ok None) bytes = (bytes ≡ []) × (new.coming ≡ old.coming) × (new.gone ≡ old.gone)
Fills old new (Err e) bytes = (bytes ≡ []) × Keeps old.coming new.coming × (new.gone ≡ old.gone)

-- ---- an end between two moments

-- the end after these items
abbrev pub end_after : EndState → List (ℕ × Item) → EndState
end_after e [] = e
end_after e (x ∷ xs) = end_after (react e x.1).end xs

-- what these items make of the end, one after the other
abbrev pub events : EndState → List (ℕ × Item) → List Event
events e [] = []
events e (x ∷ xs) = event_of e x.1 ∷ events (react e x.1).end xs

-- the bytes of all that it queues at them, in order
abbrev pub replies : EndState → List (ℕ × Item) → List ℕ
replies e [] = []
replies e (x ∷ xs) = spelled (react e x.1).end (react e x.1).queued ++ replies (react e x.1).end xs

-- The bytes `heard` were given to the end, and it sent the bytes `sent`: `heard` has these items, the end reacted to each, and
-- `sent` is a prefix of what waited and of what it queued, none lost and none sent twice.
pub record Course (old new : HalfState) (heard sent : List ℕ) : Type 0 where
  pub items : List (ℕ × Item)
  pub fed : IsFed old.feed heard items new.feed
  pub end : new.end ≡ end_after old.end items
  pub bytes : old.outbox ++ replies old.end items ≡ sent ++ new.outbox

-- ---- an end and its connection

-- what is seen of the connection, the bytes that were read and not yet given to the end, and the end
pub record Moment : Type 0 where
  pub seen : Seen
  pub pending : List ℕ
  pub half : HalfState

-- what the connection gave went to the end, but for what is pending, and what the end sent the connection took
pub record IsMoved (old new : Moment) : Type 0 where
  pub got : List ℕ
  pub heard : List ℕ
  pub sent : List ℕ
  pub course : Course old.half new.half heard sent
  pub pending : old.pending ++ got ≡ heard ++ new.pending
  pub reads : Consumes old.seen.coming new.seen.coming got
  pub writes : Appends old.seen.gone new.seen.gone sent
