-- What an end that serves does over a connection: it reacts to each item, and answers each request for a block of a piece.
use Rattle.std.specs.Prelude.{◌≡◌, ℕ, ◌+◌, Bool, true, false, ◌&&◌, ◌||◌, if◌then◌else◌, List, [], ◌∷◌, ◌++◌, length, is_some, Option, Some, None, Result}
use Rattle.std.specs.Prelude.{Ok, Err}
use Rattle.std.specs.Io.KnownBytes.{Consumes, Appends}
use Rattle.bt_wire.specs.declared.context.Context.{Context}
use Rattle.bt_wire.specs.declared.item.Item.{Item}
use Rattle.bt_wire.specs.Messages.{Message}
use Rattle.bt_wire.specs.declared.message.Message.TheVariants as m
use Rattle.bt_feed.specs.Pumps.{IsFed}
use Rattle.bt_end.specs.Ends.{EndState, Reaction, react, queueing, belief, spelled}
use Rattle.bt_end.specs.Events.{event_of}
use Rattle.bt_end.specs.Halves.{HalfState, reacted, IsSaid}
use Rattle.bt_end.specs.declared.end.SayError.{SayError}
use Rattle.bt_end.specs.declared.event.Event.{Event}
use Rattle.bt_end.specs.declared.event.Event.TheVariants as event
use Rattle.bt_exchange.specs.Courses.{Moment}
use Rattle.bt_exchange.specs.Stops.{is_piece}

-- ---- requests for blocks of pieces (BEP 3; BEP 6, "Reject Request")

-- both ends know the Fast Extension, and it is known how many pieces there are
abbrev pub is_rejecting : Context → Bool
is_rejecting c = c.fast && is_some c.pieces

-- What an end says at an event: it has no piece and chokes its peer all the time, so it rejects each block that is asked for.
abbrev pub answer_to : Context → Event → Option Message
answer_to c (event.Requested index begin size) = if is_rejecting c then Some (m.Reject index begin size) else None
answer_to c _ = None

-- a reaction, and what is said after it
abbrev pub saying : Option Message → Reaction → Reaction
saying None r = r
saying (Some msg) r = record { end = (queueing r.end (msg ∷ [])).end; queued = r.queued ++ (msg ∷ []) }

-- what an item makes of an end that serves
abbrev pub served_at : EndState → Item → Reaction
served_at e item = saying (answer_to (belief (react e item).end) (event_of e item)) (react e item)

-- ---- an end between two moments

-- the end after these items
abbrev pub end_served : EndState → List (ℕ × Item) → EndState
end_served e [] = e
end_served e (x ∷ xs) = end_served (served_at e x.1).end xs

-- the bytes of all that it queues at them, in order
abbrev pub answers : EndState → List (ℕ × Item) → List ℕ
answers e [] = []
answers e (x ∷ xs) = spelled (served_at e x.1).end (served_at e x.1).queued ++ answers (served_at e x.1).end xs

-- how many messages it queues at them
abbrev pub queued_at : EndState → List (ℕ × Item) → ℕ
queued_at e [] = 0
queued_at e (x ∷ xs) = length (served_at e x.1).queued + queued_at (served_at e x.1).end xs

-- a block of a piece came, which it never asks for
abbrev pub has_piece : EndState → List (ℕ × Item) → Bool
has_piece e [] = false
has_piece e (x ∷ xs) = is_piece (event_of e x.1) || has_piece (served_at e x.1).end xs

-- The bytes `heard` have these items. Each was handled and answered, and `sent` is a prefix of what waited and of what was queued: no byte is
-- lost, and none is sent twice.
pub record Service (old new : HalfState) (heard sent : List ℕ) : Type 0 where
  pub items : List (ℕ × Item)
  pub fed : IsFed old.feed heard items new.feed
  pub end : new.end ≡ end_served old.end items
  pub bytes : old.outbox ++ answers old.end items ≡ sent ++ new.outbox

-- what the connection gave went to the end, except for what is pending, and the connection took what the end sent
pub record IsServing (old new : Moment) : Type 0 where
  pub got : List ℕ
  pub heard : List ℕ
  pub sent : List ℕ
  pub course : Service old.half new.half heard sent
  pub pending : old.pending ++ got ≡ heard ++ new.pending
  pub reads : Consumes old.seen.coming new.seen.coming got
  pub writes : Appends old.seen.gone new.seen.gone sent

-- ---- for private contracts

abbrev pub said : Option Message → HalfState → HalfState
said None a = a
said (Some msg) a = reacted a (queueing a.end (msg ∷ []))

-- it was to say a message, and this error kept it from that
abbrev pub IsUnsaid : HalfState → Event → Type 0
IsUnsaid a e = (msg : Message) × (answer_to (belief a.end) e ≡ Some msg) × ((error : SayError) × IsSaid a msg (Err error) a)

-- the answer to an event is queued, or can't be, and then nothing changes
abbrev pub IsAnswered : HalfState → Event → Result Unit SayError → HalfState → Type 0
IsAnswered a e (Ok x) b = b ≡ said (answer_to (belief a.end) e) a
IsAnswered a e (Err error) b = (b ≡ a) × IsUnsaid a e

abbrev pub count_if : Bool → ℕ
count_if true = 1
count_if false = 0

-- how many messages are queued at an event, the answer among them
abbrev pub queued_by : Context → Event → ℕ
queued_by c (event.Opened h) = count_if c.ext + count_if c.fast
queued_by c (event.Served piece) = 1
queued_by c (event.Declined piece) = 1
queued_by c (event.Requested index begin size) = count_if (is_rejecting c)
queued_by c _ = 0
