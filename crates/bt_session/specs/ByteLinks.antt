-- The link of two ends that hands over bytes.
use Rattle.std.specs.Prelude.{◌≡◌, ℕ, min, List, [], ◌∷◌, ◌++◌, length, map, take, drop, Some, Ok, Err, ⊤}
use Rattle.bt_wire.specs.declared.item.Item.{Item}
use Rattle.bt_wire.specs.declared.item.Item.TheVariants as items
use Rattle.bt_wire.specs.declared.context.Context.{Context}
use Rattle.bt_wire.specs.declared.context.Order.{Order}
use Rattle.bt_wire.specs.Messages.{Message}
use Rattle.bt_wire.specs.Legal.{IsSaid}
use Rattle.bt_wire.specs.Messages.{order_after}
use Rattle.bt_feed.specs.Answers.{after as after_answer}
use Rattle.bt_feed.specs.Feeds.{taken}
use Rattle.bt_end.specs.Ends.{EndState, belief, react, renewed}
use Rattle.bt_end.specs.Halves.{HalfState, IsAnswered, IsTurned, IsSaid as IsSaidBy, IsSayable, connected, received, reacted, with_feed, without_sent}
use Rattle.bt_session.specs.MessageLinks.{Connection}
use Rattle.bt_end.specs.declared.end.Turn.TheVariants as turn
use Rattle.bt_end.specs.declared.end.TurnError.TheVariants as turn_error
use Rattle.bt_end.specs.declared.end.SayError.TheVariants as say_error
use Rattle.bt_session.specs.declared.link.Side.{Side}
use Rattle.bt_session.specs.declared.link.Side.TheVariants.{Left, Right}
use Rattle.bt_session.specs.declared.link.Step.{Step}
use Rattle.bt_session.specs.declared.link.Step.TheVariants as step
use Rattle.bt_session.specs.declared.link.Outcome.{Outcome}
use Rattle.bt_session.specs.declared.link.Outcome.TheVariants as outcome

-- An end with its feed and its outbox; the delivered bytes that its feed hasn't taken; and, of this connection, what it sent
-- and handled.
pub record Node : Type 0 where
  pub half : HalfState
  pub untaken : List ℕ
  pub sent : List Item
  pub handled : List Item

pub record Link : Type 0 where
  pub left : Node
  pub right : Node
  pub past : List Connection

pub record Pair : Type 0 where
  pub own : Node
  pub other : Node

abbrev pub seen_from : Side → Link → Pair
seen_from Left l = record { own = l.left; other = l.right }
seen_from Right l = record { own = l.right; other = l.left }

abbrev pub with_pair : Side → Link → Pair → Link
with_pair Left l p = record l { left = p.own; right = p.other }
with_pair Right l p = record l { left = p.other; right = p.own }

-- the feed takes of the delivered bytes what it may
abbrev pub fed : Node → Node
fed x = record x { half = received x.half x.untaken; untaken = drop (taken x.half.feed x.untaken) x.untaken }

abbrev pub with_half : Node → HalfState → Node
with_half x a = record x { half = a }

-- ---- a turn

-- the item is handled, and what the end queues is sent
abbrev pub handles : Node → Item → Node
handles x item = record x {
  half = reacted (with_feed x.half (after_answer x.half.feed (Ok (Some item)))) (react x.half.end item);
  sent = x.sent ++ map items.Message (react x.half.end item).queued;
  handled = x.handled ++ item ∷ [];
}

abbrev pub TurnGives : Node → Outcome → Node → Type 0
TurnGives x outcome.Handled y = (item : Item) × IsAnswered x.half (Ok (Some item)) × (y ≡ handles x item)
TurnGives x outcome.Idle y = IsTurned x.half (Ok turn.Idle) y.half × (y ≡ with_half x y.half)
TurnGives x outcome.Busy y = IsTurned x.half (Err turn_error.Busy) y.half × (y ≡ with_half x y.half)
TurnGives x (outcome.Refused r) y = IsTurned x.half (Err (turn_error.Refused r)) y.half × (y ≡ with_half x y.half)
TurnGives x other y = ⊥

-- ---- the other steps

abbrev pub says : Node → Message → HalfState → Node
says x m a = record x { half = a; sent = x.sent ++ items.Message m ∷ [] }

abbrev pub SayGives : Node → Message → Outcome → Node → Type 0
SayGives x m outcome.Said y = IsSaidBy x.half m (Ok tt) y.half × (y ≡ says x m y.half)
SayGives x m (outcome.NotSaid say_error.Memory) y = ⊥
SayGives x m (outcome.NotSaid e) y = IsSaidBy x.half m (Err e) y.half × (y ≡ with_half x y.half)
SayGives x m other y = ⊥

-- the first n bytes of the other's outbox are delivered, and the feed takes of them what it may
abbrev pub delivers : Pair → ℕ → Pair
delivers p n = record {
  own = fed (record p.own { untaken = p.own.untaken ++ take n p.other.half.outbox });
  other = with_half p.other (without_sent n p.other.half);
}

-- an end at the start of a connection
abbrev pub first : EndState → Node
first e = record { half = connected e; untaken = []; sent = items.Handshake e.handshake ∷ []; handled = [] }

abbrev pub connection_of : Link → Connection
connection_of l = record { left_sent = l.left.sent; right_sent = l.right.sent; left_handled = l.left.handled; right_handled = l.right.handled }

abbrev pub after_reset : Link → Link
after_reset l = record { left = first (renewed l.left.half.end); right = first (renewed l.right.half.end); past = l.past ++ connection_of l ∷ [] }

-- ---- a step

-- the outcome of a turn, after which the feed takes what it may
abbrev pub IsTurn : Pair → Outcome → Pair → Type 0
IsTurn p o q = (x : Node) × TurnGives p.own o x × (q ≡ record { own = fed x; other = p.other })

abbrev pub IsSay : Pair → Message → Outcome → Pair → Type 0
IsSay p m o q = SayGives p.own m o q.own × (q.other ≡ p.other)

abbrev pub IsDelivery : Pair → ℕ → Outcome → Pair → Type 0
IsDelivery p n o q = (o ≡ outcome.Delivered (min n (length p.other.half.outbox))) × (q ≡ delivers p (min n (length p.other.half.outbox)))

-- step s takes the link l to k, with the outcome o
abbrev pub IsStep : Link → Step → Outcome → Link → Type 0
IsStep l (step.Turn s) o k = (q : Pair) × IsTurn (seen_from s l) o q × (k ≡ with_pair s l q)
IsStep l (step.Say s m) o k = (q : Pair) × IsSay (seen_from s l) m o q × (k ≡ with_pair s l q)
IsStep l (step.Deliver s n) o k = (q : Pair) × IsDelivery (seen_from s l) n o q × (k ≡ with_pair s l q)
IsStep l step.Reset o k = (o ≡ outcome.Reset) × (k ≡ after_reset l)

-- the steps take the link l to k, with these outcomes, one for each
abbrev pub AreSteps : Link → List Step → List Outcome → Link → Type 0
AreSteps l [] [] k = k ≡ l
AreSteps l [] (o ∷ os) k = ⊥
AreSteps l (s ∷ ss) [] k = ⊥
AreSteps l (s ∷ ss) (o ∷ os) k = (next : Link) × IsStep l s o next × AreSteps next ss os k

-- the connections, that of the end too
abbrev pub connections_of : Link → List Connection
connections_of l = l.past ++ connection_of l ∷ []

-- the link of two new ends
abbrev pub link_of : EndState → EndState → Link
link_of left right = record { left = first left; right = first right; past = [] }

-- ---- messages that are spelled one after the other

-- each may be sent in the order that those before it leave
abbrev pub MayBeSent : Context → Order → List Message → Type 0
MayBeSent c o [] = ⊤
MayBeSent c o (x ∷ xs) = IsSaid c o 0 x × MayBeSent c (order_after o x) xs

-- what an end queues at an item that its feed holds may be sent, as it takes the peer to read it
abbrev pub QueuesWell : Node → Type 0
QueuesWell x = (item : Item) → IsAnswered x.half (Ok (Some item)) → MayBeSent (belief (react x.half.end item).end) x.half.end.sends
    (react x.half.end item).queued

-- a message that an end says may be sent
abbrev pub MayBeRecorded : Node → Message → Type 0
MayBeRecorded x msg = IsSayable x.half msg → IsSaid (belief x.half.end) x.half.end.sends 0 msg
