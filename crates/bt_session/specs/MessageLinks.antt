-- The link of two ends that hands over values: it decodes nothing and refuses nothing.
use Rattle.std.specs.Prelude.{◌≡◌, ℕ, ◌+◌, ◌-◌, ◌<◌, ◌^◌, false, nat_le, min, if◌then◌else◌, List, [], ◌∷◌, ◌++◌, length, map, take, slice_get, Option}
use Rattle.std.specs.Prelude.{Some, None, ⊤}
use Rattle.bt_ext.specs.Ids.{metadata_only}
use Rattle.bt_ext.specs.declared.ids.Rules.TheVariants.{Free}
use Rattle.bt_wire.specs.declared.context.Context.{Context}
use Rattle.bt_wire.specs.declared.item.Item.{Item}
use Rattle.bt_wire.specs.declared.item.Item.TheVariants as items
use Rattle.bt_wire.specs.Messages.{Message}
use Rattle.bt_wire.specs.Legal.{IsLegal, Refuses}
use Rattle.bt_wire.specs.Messages.{spell}
use Rattle.bt_end.specs.Ends.{EndState, Reaction, react, queueing, belief, renewed}
use Rattle.bt_end.specs.Halves.{high_water, unsaid}
use Rattle.bt_end.specs.declared.end.SayError.{SayError}
use Rattle.bt_end.specs.declared.end.SayError.TheVariants as error
use Rattle.bt_session.specs.declared.link.Side.{Side}
use Rattle.bt_session.specs.declared.link.Side.TheVariants.{Left, Right}
use Rattle.bt_session.specs.declared.link.Step.{Step}
use Rattle.bt_session.specs.declared.link.Step.TheVariants as step
use Rattle.bt_session.specs.declared.link.Outcome.{Outcome}
use Rattle.bt_session.specs.declared.link.Outcome.TheVariants as outcome

-- ---- lengths

-- a context to spell in where only the length counts: no context changes it
abbrev pub bare : Context
bare = record { fast = false; ext = false; pieces = None; reg = metadata_only None; rules = Free; limit = 0 }

-- how many bytes an item has
abbrev pub size : Item → ℕ
size (items.Handshake h) = 68
size (items.Message m) = length (spell bare m)

abbrev pub total : List Item → ℕ
total [] = 0
total (i ∷ is) = size i + total is

-- ---- the link

-- An end; and what it sent on this connection: the items, how many of their bytes were delivered, and how many of the items
-- the other end handled.
pub record Node : Type 0 where
  pub end : EndState
  pub sent : List Item
  pub delivered : ℕ
  pub handled : ℕ

-- what went over a connection: what each end sent and handled
pub record Connection : Type 0 where
  pub left_sent : List Item
  pub right_sent : List Item
  pub left_handled : List Item
  pub right_handled : List Item

pub record Link : Type 0 where
  pub left : Node
  pub right : Node
  pub past : List Connection

-- an end and the other one
pub record Pair : Type 0 where
  pub own : Node
  pub other : Node

abbrev pub seen_from : Side → Link → Pair
seen_from Left l = record { own = l.left; other = l.right }
seen_from Right l = record { own = l.right; other = l.left }

abbrev pub with_pair : Side → Link → Pair → Link
with_pair Left l p = record l { left = p.own; right = p.other }
with_pair Right l p = record l { left = p.other; right = p.own }

abbrev pub undelivered : Node → ℕ
undelivered x = total x.sent - x.delivered

-- ---- a turn

abbrev pub next_item : Node → Option Item
next_item y = slice_get y.sent y.handled

-- nothing to handle is there to its last byte; or too much waits to be delivered; or an item is handled
abbrev pub turn_by : Pair → Option Item → Outcome
turn_by p None = outcome.Idle
turn_by p (Some item) =
    if nat_le (total (take (p.other.handled + 1) p.other.sent)) p.other.delivered
    then (if nat_le high_water (undelivered p.own) then outcome.Busy else outcome.Handled)
    else outcome.Idle

abbrev pub turn_of : Pair → Outcome
turn_of p = turn_by p (next_item p.other)

-- the end sends what it queues
abbrev pub sends : Node → Reaction → Node
sends x r = record x { end = r.end; sent = x.sent ++ map items.Message r.queued }

abbrev pub handles : Pair → Option Item → Pair
handles p None = p
handles p (Some item) = record { own = sends p.own (react p.own.end item); other = record p.other { handled = p.other.handled + 1 } }

-- ---- the other steps

-- the end sends the message
abbrev pub says : Node → Message → Node
says x m = sends x (queueing x.end (m ∷ []))

abbrev pub delivers : Node → ℕ → Node
delivers y n = record y { delivered = y.delivered + n }

-- an end at the start of a connection: its handshake is sent
abbrev pub first : EndState → Node
first e = record { end = e; sent = items.Handshake e.handshake ∷ []; delivered = 0; handled = 0 }

abbrev pub connection_of : Link → Connection
connection_of l = record {
  left_sent = l.left.sent;
  right_sent = l.right.sent;
  left_handled = take l.right.handled l.right.sent;
  right_handled = take l.left.handled l.left.sent;
}

-- ---- a step: its outcome, and the link that it leaves

abbrev pub unsaid_by : Node → Message → Option SayError
unsaid_by x m = unsaid x.end false (undelivered x) m

-- the message is legal as the end takes the other to judge it; or the first error that holds
abbrev pub IsSayOf : Node → Message → Outcome → Type 0
IsSayOf x m outcome.Said = (unsaid_by x m ≡ None) × IsLegal (belief x.end) x.end.sends m
IsSayOf x m (outcome.NotSaid (error.Illegal f)) = (unsaid_by x m ≡ None) × Refuses (belief x.end) x.end.sends m f
IsSayOf x m (outcome.NotSaid error.Memory) = ⊥
IsSayOf x m (outcome.NotSaid e) = unsaid_by x m ≡ Some e
IsSayOf x m other = ⊥

abbrev pub IsOutcome : Link → Step → Outcome → Type 0
IsOutcome l (step.Turn s) o = o ≡ turn_of (seen_from s l)
IsOutcome l (step.Say s m) o = IsSayOf (seen_from s l).own m o
IsOutcome l (step.Deliver s n) o = o ≡ outcome.Delivered (min n (undelivered (seen_from s l).other))
IsOutcome l step.Reset o = o ≡ outcome.Reset

abbrev pub after_turn : Pair → Outcome → Pair
after_turn p outcome.Handled = handles p (next_item p.other)
after_turn p other = p

abbrev pub after_say : Pair → Message → Outcome → Pair
after_say p m outcome.Said = record p { own = says p.own m }
after_say p m other = p

abbrev pub after_deliver : Pair → Outcome → Pair
after_deliver p (outcome.Delivered n) = record p { other = delivers p.other n }
after_deliver p other = p

abbrev pub after_reset : Link → Link
after_reset l = record { left = first (renewed l.left.end); right = first (renewed l.right.end); past = l.past ++ connection_of l ∷ [] }

abbrev pub after : Link → Step → Outcome → Link
after l (step.Turn s) o = with_pair s l (after_turn (seen_from s l) o)
after l (step.Say s m) o = with_pair s l (after_say (seen_from s l) m o)
after l (step.Deliver s n) o = with_pair s l (after_deliver (seen_from s l) o)
after l step.Reset o = after_reset l

-- ---- steps

-- the steps have these outcomes, one for each
abbrev pub AreOutcomes : Link → List Step → List Outcome → Type 0
AreOutcomes l [] [] = ⊤
AreOutcomes l [] (o ∷ os) = ⊥
AreOutcomes l (s ∷ ss) [] = ⊥
AreOutcomes l (s ∷ ss) (o ∷ os) = IsOutcome l s o × AreOutcomes (after l s o) ss os

abbrev pub after_all : Link → List Step → List Outcome → Link
after_all l [] os = l
after_all l (s ∷ ss) [] = l
after_all l (s ∷ ss) (o ∷ os) = after_all (after l s o) ss os

-- each direction of a connection has fewer than 2^62 bytes
abbrev pub IsSmallNode : Node → Type 0
IsSmallNode x = total x.sent < 2 ^ 62

abbrev pub IsSmall : Link → Type 0
IsSmall l = IsSmallNode l.left × IsSmallNode l.right

-- so it does all along
abbrev pub StaysSmall : Link → List Step → List Outcome → Type 0
StaysSmall l [] os = IsSmall l
StaysSmall l (s ∷ ss) [] = IsSmall l
StaysSmall l (s ∷ ss) (o ∷ os) = IsSmall l × StaysSmall (after l s o) ss os

-- the connections, that of the end too
abbrev pub connections_of : Link → List Connection
connections_of l = l.past ++ connection_of l ∷ []

-- the link of two new ends
abbrev pub link_of : EndState → EndState → Link
link_of left right = record { left = first left; right = first right; past = [] }
