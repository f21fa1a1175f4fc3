-- For private contracts: an end of the link as a value.
use Rattle.std.specs.Prelude.{◌≡◌, ℕ, ◌-◌, ◌^◌, ◌<◌, List, ◌++◌, length, map}
use Rattle.std.specs.List.{flat_map}
use Rattle.bt_wire.specs.declared.context.Context.{Context}
use Rattle.bt_wire.specs.declared.context.Order.{Order}
use Rattle.bt_wire.specs.declared.item.Item.{Item}
use Rattle.bt_wire.specs.declared.item.Item.TheVariants as items
use Rattle.bt_wire.specs.Messages.{Message}
use Rattle.bt_wire.specs.Messages.{spell}
use Rattle.bt_session.specs.ByteLinks as B
use Rattle.bt_end.specs.declared.end.TurnError.{TurnError}
use Rattle.bt_end.specs.declared.end.TurnError.TheVariants as turn_error
use Rattle.bt_session.specs.declared.link.Outcome.{Outcome}
use Rattle.bt_session.specs.declared.link.Outcome.TheVariants as outcome
use Rattle.bt_session.specs.declared.node.Node.{Node}

pub record IsNodeOf (n : Node) (x : B.Node) : Type 0 where
  pub end : n.end ≡ x.half
  pub untaken : n.untaken.bytes ≡ x.untaken
  pub sent : n.sent.items ≡ x.sent
  pub handled : n.handled ≡ length x.handled

-- it may handle an item: what it queues can be read back, and the item can be counted
pub record MayHandle (x : B.Node) : Type 0 where
  pub queues : B.QueuesWell x
  pub count : length x.handled < 2 ^ 64 - 1

-- the bytes are the spellings of these messages, each of which may be sent in its turn
pub record Spells (c : Context) (o : Order) (bytes : List ℕ) (xs : List Message) : Type 0 where
  pub spelled : bytes ≡ flat_map (spell c) xs
  pub well : B.MayBeSent c o xs

-- and are recorded as such
abbrev pub IsRecorded : Context → Order → List ℕ → List Item → List Item → Type 0
IsRecorded c o bytes old new = (xs : List Message) → Spells c o bytes xs → new ≡ old ++ map items.Message xs

-- what is recorded so far of these messages: the rest of the bytes spells those that are left
pub record IsRecording (c : Context) (o : Order) (rest : List ℕ) (old new : List Item) (xs : List Message) : Type 0 where
  pub left : List Message
  pub spells : Spells c o rest left
  pub same : new ++ map items.Message left ≡ old ++ map items.Message xs

-- the outcome of a turn that handled nothing
abbrev pub IsStop : TurnError → Outcome → Type 0
IsStop (turn_error.Refused r) o = o ≡ outcome.Refused r
IsStop turn_error.Busy o = o ≡ outcome.Busy
IsStop turn_error.Memory o = ⊥
