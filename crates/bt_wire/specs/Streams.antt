-- What a stream says: its items, where it is refused, and what is left unfinished.
use Rattle.std.specs.Prelude.{◌≡◌, ◌==◌, ℕ, ◌<◌, ◌≤◌, ◌+◌, Bool, not, ◌&&◌, List, [], ◌∷◌, ◌++◌, length, Option, Some, None, if◌then◌else◌}
use Rattle.bt_wire.specs.declared.context.Context.{Context}
use Rattle.bt_wire.specs.declared.context.Own.{Own}
use Rattle.bt_wire.specs.declared.context.Order.{Order}
use Rattle.bt_wire.specs.declared.context.Order.TheVariants.{Fresh}
use Rattle.bt_wire.specs.declared.fault.Refused.{Refused}
use Rattle.bt_wire.specs.declared.fault.Reason.TheVariants.{EndInside}
use Rattle.bt_wire.specs.declared.handshake.Handshake.{Handshake}
use Rattle.bt_wire.specs.declared.item.Item.{Item}
use Rattle.bt_wire.specs.declared.item.Item.TheVariants as items
use Rattle.bt_wire.specs.declared.item.Refusal.{Refusal}
use Rattle.bt_wire.specs.Messages.{Message}
use Rattle.bt_wire.specs.Handshakes.{hand, hand_fault, IsHandshake, negotiated}
use Rattle.bt_wire.specs.Messages.{spell, order_after}
use Rattle.bt_wire.specs.Faults.{IsFault}
use Rattle.bt_wire.specs.Legal.{IsSaid}

-- ---- messages

-- b is the spellings of these messages in their order, each legal in the order that those before it leave
abbrev pub Says : Context → Order → ℕ → List Message → List ℕ → Type 0
Says c o s [] b = b ≡ []
Says c o s (m ∷ ms) b =
    IsSaid c o s m × ((rest : List ℕ) × (b ≡ spell c m ++ rest) × Says c (order_after o m) (s + length (spell c m)) ms rest)

-- b begins with what these messages say, and r follows it
abbrev pub Begins : Context → Order → ℕ → List ℕ → List Message → List ℕ → Type 0
Begins c o s b ms r = (x : List ℕ) × (b ≡ x ++ r) × Says c o s ms x

-- b begins with no longer list
pub record IsLongest (c : Context) (o : Order) (s : ℕ) (b : List ℕ) (ms : List Message) (r : List ℕ) : Type 0 where
  pub begins : Begins c o s b ms r
  pub longest : (ns : List Message) (t : List ℕ) → Begins c o s b ns t → length ns ≤ length ms

-- the order that these messages leave
abbrev pub orders_after : Order → List Message → Order
orders_after o [] = o
orders_after o (m ∷ ms) = orders_after (order_after o m) ms

-- each message at its offset
abbrev pub placed : Context → ℕ → List Message → List (ℕ × Item)
placed c s [] = []
placed c s (m ∷ ms) = (s, items.Message m) ∷ placed c (s + length (spell c m)) ms

-- ---- the outcome of a stream

-- its items with their offsets; the refusal of what follows them; the number of the item that follows (0 is the
-- handshake), the order it is judged in, where it starts, and the bytes from there on
pub record Outcome : Type 0 where
  pub items : List (ℕ × Item)
  pub refusal : Option Refusal
  pub number : ℕ
  pub order : Order
  pub start : ℕ
  pub tail : List ℕ

abbrev pub refusal_at : ℕ → ℕ → Option Refused → Option Refusal
refusal_at number start None = None
refusal_at number start (Some f) = Some (record { message = number; at = start + f.at; reason = f.reason })

-- messages from the offset s on, the first of which has this number: the longest list that b begins with, and the
-- fault, if any, of the bytes after it
pub record IsOutcome (c : Context) (o : Order) (s number : ℕ) (b : List ℕ) (v : Outcome) : Type 0 where
  pub messages : List Message
  pub longest : IsLongest c o s b messages v.tail
  pub items : v.items ≡ placed c s messages
  pub number_after : v.number ≡ number + length messages
  pub order_after : v.order ≡ orders_after o messages
  pub start_after : v.start + length v.tail ≡ s + length b
  pub fault : Option Refused
  pub is_fault : IsFault c v.order v.start v.tail fault
  pub refusal : v.refusal ≡ refusal_at v.number v.start fault

-- ---- a whole stream

-- a handshake that isn't whole, or has a fault
abbrev pub awaiting : Option Refused → List ℕ → Outcome
awaiting f b = record { items = []; refusal = refusal_at 0 0 f; number = 0; order = Fresh; start = 0; tail = b }

abbrev pub with_item : ℕ → Item → Outcome → Outcome
with_item s item v = record v { items = (s, item) ∷ v.items }

-- the handshake, and the outcome of the rest
pub record IsOpened (own : Own) (b : List ℕ) (v : Outcome) : Type 0 where
  pub handshake : Handshake
  pub fits : IsHandshake handshake
  pub rest : List ℕ
  pub parts : b ≡ hand handshake ++ rest
  pub after : Outcome
  pub messages : IsOutcome (negotiated own handshake.reserved) Fresh 68 1 rest after
  pub whole : v ≡ with_item 0 (items.Handshake handshake) after

abbrev pub IsVerdictBy : Option Refused → Own → List ℕ → Outcome → Type 0
IsVerdictBy (Some f) own b v = v ≡ awaiting (Some f) b
IsVerdictBy None own b v = (length b < 68 → v ≡ awaiting None b) × (68 ≤ length b → IsOpened own b v)

-- the outcome of a stream, from its handshake on
abbrev pub IsVerdict : Own → List ℕ → Outcome → Type 0
IsVerdict own b v = IsVerdictBy (hand_fault own b) own b v

-- ---- the stream's end: a refusal stays, and nothing may be unfinished

abbrev pub is_complete : Outcome → Bool
is_complete v = not (v.number == 0) && (length v.tail == 0)

abbrev pub end_inside : Outcome → Refusal
end_inside v = record { message = v.number; at = v.start + length v.tail; reason = EndInside }

abbrev pub refusal_at_end : Outcome → Option Refusal
refusal_at_end v = elim v.refusal [ Some r ↦ Some r | None ↦ if is_complete v then None else Some (end_inside v) ]
