-- What the bytes of one item show: the handshake, or a message of a given order, start and number.
use Rattle.std.specs.Prelude.{◌≡◌, ℕ, ◌+◌, ◌≤◌, Bool, ◌||◌, List, [], ◌∷◌, ◌++◌, length, Option, Some, None, is_some, nat_le, max}
use Rattle.bt_ext.specs.declared.ids.Rules.{Rules}
use Rattle.bt_wire.specs.declared.context.Order.{Order}
use Rattle.bt_wire.specs.declared.context.Order.TheVariants.{Fresh}
use Rattle.bt_wire.specs.declared.fault.Refused.{Refused}
use Rattle.bt_wire.specs.declared.item.Item.{Item}
use Rattle.bt_wire.specs.declared.item.Item.TheVariants as items
use Rattle.bt_wire.specs.declared.item.Refusal.{Refusal}
use Rattle.bt_wire.specs.Handshakes.{hand, hand_fault, IsHandshake, negotiated}
use Rattle.bt_wire.specs.Messages.{spell, order_after}
use Rattle.bt_wire.specs.Faults.{early_fault, is_whole, IsFault}
use Rattle.bt_wire.specs.Legal.{IsSaid}
use Rattle.bt_wire.specs.Streams.{Outcome, IsOutcome, IsVerdict}
use Rattle.bt_feed.specs.declared.stage.Stage.{Stage}
use Rattle.bt_feed.specs.declared.stage.Stage.TheVariants as stage

abbrev pub start_of : Stage → ℕ
start_of (stage.Handshake own) = 0
start_of (stage.Message c o s n) = s

abbrev pub number_of : Stage → ℕ
number_of (stage.Handshake own) = 0
number_of (stage.Message c o s n) = n

-- messages are numbered from 1 on
abbrev pub IsNumbered : Stage → Type 0
IsNumbered (stage.Handshake own) = 0 ≤ 1
IsNumbered (stage.Message c o s n) = 1 ≤ n

-- the order that the item is judged in
abbrev pub order_of : Stage → Order
order_of (stage.Handshake own) = Fresh
order_of (stage.Message c o s n) = o

abbrev pub limit_of : Stage → ℕ
limit_of (stage.Handshake own) = own.limit
limit_of (stage.Message c o s n) = c.limit

-- as many bytes as an item may have
abbrev pub capacity_of : Stage → ℕ
capacity_of t = max 68 (limit_of t + 4)

-- the same, judged by these rules
abbrev pub with_rules : Rules → Stage → Stage
with_rules rules (stage.Handshake own) = stage.Handshake (record own { rules = rules })
with_rules rules (stage.Message c o s n) = stage.Message (record c { rules = rules }) o s n

-- ---- faults, and items

-- the fault that is judged before all bytes of the item are there
abbrev pub early : Stage → List ℕ → Option Refused
early (stage.Handshake own) b = hand_fault own b
early (stage.Message c o s n) b = early_fault c o s b

-- all bytes of the item are there
abbrev pub is_all : Stage → List ℕ → Bool
is_all (stage.Handshake own) b = nat_le 68 (length b)
is_all (stage.Message c o s n) b = is_whole b

-- nothing may be added to the bytes: they have a fault, or are the spelling of an item (laws EndedIsClosed and ClosedStays)
abbrev pub is_closed : Stage → List ℕ → Bool
is_closed t b = is_some (early t b) || is_all t b

abbrev pub HasFault : Stage → List ℕ → Refused → Type 0
HasFault (stage.Handshake own) b f = hand_fault own b ≡ Some f
HasFault (stage.Message c o s n) b f = IsFault c o s b (Some f)

abbrev pub refusal_of : Stage → Refused → Refusal
refusal_of t f = record { message = number_of t; at = start_of t + f.at; reason = f.reason }

-- the bytes are the spelling of this item, which is legal here
abbrev pub IsItem : Stage → List ℕ → Item → Type 0
IsItem (stage.Handshake own) b (items.Handshake h) = (hand_fault own b ≡ None) × IsHandshake h × (b ≡ hand h)
IsItem (stage.Message c o s n) b (items.Message m) = IsSaid c o s m × (b ≡ spell c m)
IsItem (stage.Handshake own) b (items.Message m) = ⊥
IsItem (stage.Message c o s n) b (items.Handshake h) = ⊥

-- what is awaited after an item of `size` bytes
abbrev pub stage_after : Stage → ℕ → Item → Stage
stage_after (stage.Handshake own) size (items.Handshake h) = stage.Message (negotiated own h.reserved) Fresh size 1
stage_after (stage.Message c o s n) size (items.Message m) = stage.Message c (order_after o m) (s + size) (n + 1)
stage_after (stage.Handshake own) size (items.Message m) = stage.Handshake own
stage_after (stage.Message c o s n) size (items.Handshake h) = stage.Message c o s n

-- From t on the bytes are the spellings of these items, each at its offset; then u is awaited, and the rest is left.
abbrev pub Spells : Stage → List (ℕ × Item) → List ℕ → Stage → List ℕ → Type 0
Spells t [] b u rest = (u ≡ t) × (b ≡ rest)
Spells t (x ∷ xs) b u rest =
    (x.0 ≡ start_of t) × ((w : List ℕ) × (later : List ℕ) × (b ≡ w ++ later) × IsItem t w x.1 × Spells (stage_after t (length w) x.1) xs later u rest)

-- the outcome of the bytes from here on
abbrev pub Comes : Stage → List ℕ → Outcome → Type 0
Comes (stage.Handshake own) b v = IsVerdict own b v
Comes (stage.Message c o s n) b v = IsOutcome c o s n b v

-- nothing more is read: the bytes are left, with their refusal or none
abbrev pub stopped : Stage → List ℕ → Option Refusal → Outcome
stopped t b refusal = record { items = []; refusal = refusal; number = number_of t; order = order_of t; start = start_of t; tail = b }
