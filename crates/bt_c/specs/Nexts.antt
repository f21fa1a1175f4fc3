-- What the next call tells: an item of the peer, and what it made of the end.
use Rattle.std.specs.Prelude.{◌≡◌, ℕ, ◌<◌, ◌≤◌, ◌^◌, List, ◌++◌, length, drop, Option, Some, None, Result, Ok}
use Rattle.bt_ext.specs.Ids.{metadata_only}
use Rattle.bt_wire.specs.declared.context.Context.{Context}
use Rattle.bt_wire.specs.declared.item.Item.{Item}
use Rattle.bt_wire.specs.declared.item.Item.TheVariants as items
use Rattle.bt_wire.specs.Messages.{fields_of, spell}
use Rattle.bt_feed.specs.Answers.{IsAnswer}
use Rattle.bt_feed.specs.Feeds.{taken}
use Rattle.bt_feed.specs.Stages.{start_of}
use Rattle.bt_end.specs.Events.{event_of}
use Rattle.bt_end.specs.Halves.{HalfState, received, IsTurned}
use Rattle.bt_end.specs.declared.end.Turn.{Turn}
use Rattle.bt_end.specs.declared.end.Turn.TheVariants.{Handled}
use Rattle.bt_end.specs.declared.end.TurnError.{TurnError}
use Rattle.bt_end.specs.declared.event.Event.{Event}
use Rattle.bt_end.specs.declared.event.Event.TheVariants as event
use Rattle.bt_c.specs.Readers.{shown_id, Shows, ShowsExtended, kept, flagged, is_on}
use Rattle.bt_c.specs.Statuses.{turn_status, ShowsTurn}
use Rattle.bt_c.specs.declared.item.BtItem.{BtItem}
use Rattle.bt_c.specs.declared.event.BtEvent.{BtEvent}
use Rattle.bt_c.specs.declared.next.BtHeard.{BtHeard}

-- an item that starts at s: its numbers, and how many bytes it has on the wire. A metadata message shows no number of its id.
abbrev pub ShowsItem : BtItem → ℕ → Item → Type 0
ShowsItem i s (items.Handshake h) = (i.id ≡ 257) × (i.start ≡ s) × (i.size ≡ 68) × (i.body ≡ 0) × (i.reserved ≡ h.reserved.0)
ShowsItem i s (items.Message msg) =
    (i.id ≡ shown_id msg) × (i.start ≡ s) × ((c : Context) → length (spell c msg) < 2 ^ 64 → i.size ≡ length (spell c msg)) × ShowsExtended i msg
    × ((c : Context) → c.reg ≡ metadata_only None → Shows i (fields_of c msg))

-- an event, by numbers
abbrev pub ShowsEvent : BtEvent → Event → Type 0
ShowsEvent x (event.Opened h) = (x.kind ≡ 1) × (x.peer_id ≡ h.peer_id)
ShowsEvent x (event.Announced id size begins) =
    (x.kind ≡ 2) × (flagged x.has_id x.id ≡ id) × (flagged x.has_size x.size ≡ size) × (is_on x.begins ≡ begins)
ShowsEvent x (event.Block piece) = (x.kind ≡ 3) × (x.piece ≡ piece)
ShowsEvent x (event.Rejected piece) = (x.kind ≡ 4) × (x.piece ≡ piece)
ShowsEvent x event.Fetched = x.kind ≡ 5
ShowsEvent x event.Mismatched = x.kind ≡ 6
ShowsEvent x (event.Served piece) = (x.kind ≡ 7) × (x.piece ≡ piece)
ShowsEvent x (event.Declined piece) = (x.kind ≡ 8) × (x.piece ≡ piece)
ShowsEvent x (event.Requested index begin size) = x.kind ≡ 9
ShowsEvent x (event.Piece index begin) = x.kind ≡ 10
ShowsEvent x event.Other = x.kind ≡ 0

-- bytes are copied to the start of a caller's room, if there is room for all of them
abbrev pub Lends : List ℕ → List ℕ → List ℕ → Type 0
Lends bytes old new = (length bytes ≤ length old → new ≡ bytes ++ drop (length bytes) old) × (length old < length bytes → new ≡ old)

-- those that a message keeps: a bitfield, a block or a payload
abbrev pub LendsItem : Item → List ℕ → List ℕ → Type 0
LendsItem (items.Handshake h) old new = new ≡ old
LendsItem (items.Message msg) old new = (c : Context) → Lends (kept (fields_of c msg)) old new

-- what a turn of the end `a` tells: of an item, its numbers, its event and its bytes; of a refusal where and why
abbrev pub Tells : HalfState → Result Turn TurnError → BtHeard → BtHeard → List ℕ → List ℕ → Type 0
Tells a (Ok Handled) x y old new =
    (item : Item) × IsAnswer a.feed (Ok (Some item)) × ShowsItem y.item (start_of a.feed.stage) item × ShowsEvent y.event (event_of a.end item)
    × LendsItem item old new × (y.verdict ≡ x.verdict)
Tells a turn x y old new = (y.item ≡ x.item) × (y.event ≡ x.event) × ShowsTurn turn x.verdict y.verdict × (new ≡ old)

-- the end takes what its feed may take of the bytes, and makes a turn
abbrev pub IsNextOf : HalfState → List ℕ → HalfState → BtHeard → BtHeard → List ℕ → List ℕ → ℕ → Type 0
IsNextOf a bytes b x y old new n =
    (turn : Result Turn TurnError) × (n ≡ turn_status turn) × (y.used ≡ taken a.feed bytes) × IsTurned (received a bytes) turn b
    × Tells (received a bytes) turn x y old new

abbrev pub IsNext : Option HalfState → List ℕ → Option HalfState → BtHeard → BtHeard → List ℕ → List ℕ → ℕ → Type 0
IsNext None bytes b x y old new n = (n ≡ 7) × (b ≡ None) × (y ≡ record x { used = 0 }) × (new ≡ old)
IsNext (Some a) bytes b x y old new n = (end : HalfState) × (b ≡ Some end) × IsNextOf a bytes end x y old new n
