-- One step of a reader over the bytes that follow what it has read.
use Rattle.std.specs.Prelude.{◌≡◌, ◌==◌, ℕ, ◌+◌, ◌<◌, Bool, true, false, ◌&&◌, List, length, Some, None, if◌then◌else◌}
use Rattle.bt_wire.specs.declared.fault.Reason.TheVariants.{EndInside}
use Rattle.bt_wire.specs.declared.context.Context.{Context}
use Rattle.bt_wire.specs.declared.context.Order.{Order}
use Rattle.bt_wire.specs.declared.context.Order.TheVariants.{Fresh}
use Rattle.bt_wire.specs.declared.fault.Refused.{Refused}
use Rattle.bt_wire.specs.declared.handshake.Handshake.{Handshake}
use Rattle.bt_wire.specs.Messages.{Message}
use Rattle.bt_wire.specs.declared.item.Item.{Item}
use Rattle.bt_wire.specs.declared.item.Item.TheVariants as items
use Rattle.bt_wire.specs.Handshakes.{hand_fault, IsHandshakeOf, negotiated}
use Rattle.bt_wire.specs.Messages.{fields_of, order_after}
use Rattle.bt_wire.specs.Faults.{IsFault}
use Rattle.bt_wire.specs.Headers.{IsRead}
use Rattle.bt_wire.specs.Fronts.{BeginsBy, IsPartial}
use Rattle.bt_c.specs.Readers.{own_of, context_of, order_in, is_on, shown_id, Shows, ShowsExtended, ShowsFault}
use Rattle.bt_c.specs.declared.reader.BtReader.{BtReader}
use Rattle.bt_c.specs.declared.item.BtItem.{BtItem}

-- where the item starts that the reader awaits
abbrev pub start_of : BtReader → ℕ
start_of r = if is_on r.opened then r.start else 0

-- ---- the handshake is awaited

abbrev pub LacksHandshake : BtReader → List ℕ → Type 0
LacksHandshake r b = (hand_fault (own_of r.own) b ≡ None) × (length b < 68)

-- b begins with h; the item shows it, and the reader s judges by what both ends have agreed on
pub record Opens (r : BtReader) (b : List ℕ) (s : BtReader) (i : BtItem) (h : Handshake) : Type 0 where
  pub faultless : hand_fault (own_of r.own) b ≡ None
  pub begins : IsHandshakeOf b h
  pub id : i.id ≡ 257
  pub start : i.start ≡ 0
  pub size : i.size ≡ 68
  pub body : i.body ≡ 0
  pub reserved : i.reserved ≡ h.reserved.0
  pub opened : is_on s.opened ≡ true
  pub after : s.start ≡ 68
  pub own : s.own ≡ r.own
  pub context : context_of s ≡ negotiated (own_of r.own) h.reserved
  pub order : order_in s.past ≡ Fresh

-- ---- a message is awaited

abbrev pub LacksMessage : BtReader → List ℕ → Type 0
LacksMessage r b = IsPartial (context_of r) (order_in r.past) r.start b

-- b begins with msg; the item shows it, and the reader s is after it
pub record Goes (r : BtReader) (b : List ℕ) (s : BtReader) (i : BtItem) (msg : Message) : Type 0 where
  pub begins : BeginsBy (context_of r) (order_in r.past) r.start b msg i.size
  pub id : i.id ≡ shown_id msg
  pub start : i.start ≡ r.start
  pub fields : Shows i (fields_of (context_of r) msg)
  pub extended : ShowsExtended i msg
  pub order : order_in s.past ≡ order_after (order_in r.past) msg
  pub same : s ≡ record r { past = s.past; start = r.start + i.size }

-- the bytes w are one message, judged in the context c and the order o: an item or a refusal (for private contracts alone)
pub data GoesOver (c : Context) (o : Order) (r : BtReader) (w : List ℕ) (s : BtReader) (i : BtItem) : ℕ → Type 0 where
  item : (msg : Message) → IsRead c o w msg → i.size ≡ length w → i.id ≡ shown_id msg → i.start ≡ r.start → Shows i (fields_of c msg) → ShowsExtended i msg
      → order_in s.past ≡ order_after o msg → s ≡ record r { past = s.past; start = r.start + length w } → GoesOver c o r w s i 1
  refused : (f : Refused) → IsFault c o 0 w (Some f) → ShowsFault i r.start f → s ≡ r → GoesOver c o r w s i 2

-- ---- either

-- b has no fault, and isn't a whole item
pub data Lacks (r : BtReader) (b : List ℕ) : Type 0 where
  handshake : is_on r.opened ≡ false → LacksHandshake r b → Lacks r b
  message : is_on r.opened ≡ true → LacksMessage r b → Lacks r b

-- b has the fault f
pub data HasFault (r : BtReader) (b : List ℕ) (f : Refused) : Type 0 where
  handshake : is_on r.opened ≡ false → hand_fault (own_of r.own) b ≡ Some f → HasFault r b f
  message : is_on r.opened ≡ true → IsFault (context_of r) (order_in r.past) r.start b (Some f) → HasFault r b f

-- b begins with the item x
abbrev pub Gives : BtReader → List ℕ → BtReader → BtItem → Item → Type 0
Gives r b s i (items.Handshake h) = (is_on r.opened ≡ false) × Opens r b s i h
Gives r b s i (items.Message msg) = (is_on r.opened ≡ true) × Goes r b s i msg

-- a step from the reader r to s, by its answer: 0 for more bytes, 1 for an item, 2 for a refusal
pub data Steps (r : BtReader) (b : List ℕ) (s : BtReader) (i : BtItem) : ℕ → Type 0 where
  more : Lacks r b → s ≡ r → Steps r b s i 0
  item : (x : Item) → Gives r b s i x → Steps r b s i 1
  refused : (f : Refused) → HasFault r b f → ShowsFault i (start_of r) f → s ≡ r → Steps r b s i 2

-- ---- at the stream's end

-- the stream ends inside the item that r awaits, of which n bytes are there
abbrev pub IsInside : BtReader → ℕ → BtItem → Type 0
IsInside r n i = ShowsFault i (start_of r) (record { at = n; reason = EndInside })

abbrev pub is_complete : BtReader → List ℕ → Bool
is_complete r b = is_on r.opened && (length b == 0)

-- a step over all bytes that are left, by its answer: 1 for an item, 2 for a refusal, 3 where the stream is complete
pub data Ends (r : BtReader) (b : List ℕ) (s : BtReader) (i : BtItem) : ℕ → Type 0 where
  item : (x : Item) → Gives r b s i x → Ends r b s i 1
  refused : (f : Refused) → HasFault r b f → ShowsFault i (start_of r) f → s ≡ r → Ends r b s i 2
  inside : Lacks r b → is_complete r b ≡ false → IsInside r (length b) i → s ≡ r → Ends r b s i 2
  end : Lacks r b → is_complete r b ≡ true → s ≡ r → Ends r b s i 3
