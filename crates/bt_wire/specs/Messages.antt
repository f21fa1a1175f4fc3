-- What messages are as bytes (BEP 3, "peer messages"; BEP 5; BEP 6; BEP 10).
use Rattle.std.specs.Borrow.{Bor}
use Rattle.std.specs.Prelude.{◌≡◌, ℕ, ◌<◌, ◌^◌, Bool, true, false, List, [], ◌∷◌, ◌++◌, length, Option, Some, None, unwrap_or, option_and_then}
use Rattle.std.specs.Prelude.{if◌then◌else◌, ⊤}
use Rattle.bt_ext.specs.declared.ext.Ext.{Ext}
use Rattle.bt_ext.specs.declared.ext.ExtView.{ExtView}
use Rattle.bt_ext.specs.Payloads.{ext_id, payload_of, HasSpelling, seen as ext_of_view}
use Rattle.bt_wire.specs.declared.context.Context.{Context}
use Rattle.bt_wire.specs.declared.context.Order.{Order}
use Rattle.bt_wire.specs.declared.context.Order.TheVariants.{Past}
use Rattle.bt_wire.specs.declared.fields.Fields.{Fields as FieldsView}
use Rattle.bt_wire.specs.declared.fields.Fields.TheVariants as f
use Rattle.bt_wire.specs.declared.ids.Kind.{Kind}
use Rattle.bt_wire.specs.declared.ids.Turn.{Turn}
use Rattle.bt_wire.specs.declared.ids.Turn.TheVariants.{Apart, Counted, Opening}
use Rattle.bt_wire.specs.declared.message.Message.{Message as MessageOver}
use Rattle.bt_wire.specs.declared.message.Message.TheVariants as m
use Rattle.bt_wire.specs.Numbers.{be16, be32}
use Rattle.bt_wire.specs.Ids.{kind_of, has_meaning}

-- a message as a value, and as a view of bytes
abbrev pub Message : Type 0
Message = MessageOver (List ℕ) Ext

abbrev pub MessageView : Type 0
MessageView = MessageOver (Bor (List ℕ)) ExtView

-- what follows the id, by its shape: nothing; a piece index; an index with begin and length; an index with begin and a
-- block; a port; a bitfield; an extended id and its payload; or the bytes after an id that has no meaning
pub data Fields : Type 0 where
  none : Fields
  index : ℕ → Fields
  part : ℕ → ℕ → ℕ → Fields
  block : ℕ → ℕ → List ℕ → Fields
  port : ℕ → Fields
  field : List ℕ → Fields
  extended : ℕ → List ℕ → Fields
  payload : List ℕ → Fields

-- the fields that a view of them is
abbrev pub seen : FieldsView → Fields
seen f.Nothing = none
seen (f.Index i) = index i
seen (f.Part i b l) = part i b l
seen (f.Block i b bytes) = block i b bytes.now
seen (f.Port p) = port p
seen (f.Field bits) = field bits.now
seen (f.Payload bytes) = payload bytes.now

-- an extended message, whose payload's bytes a value doesn't hold
abbrev pub IsExtended : Message → Type 0
IsExtended (m.Extended e) = ⊤
IsExtended msg = ⊥

-- ---- a message is a keep-alive, or an id and fields

-- the id of a message with a meaning
abbrev pub known_id : {B E : Type 0} → MessageOver B E → Option ℕ
known_id m.KeepAlive = None
known_id m.Choke = Some 0
known_id m.Unchoke = Some 1
known_id m.Interested = Some 2
known_id m.NotInterested = Some 3
known_id (m.Have i) = Some 4
known_id (m.Bitfield bits) = Some 5
known_id (m.Request i b l) = Some 6
known_id (m.Piece i b bytes) = Some 7
known_id (m.Cancel i b l) = Some 8
known_id (m.Port p) = Some 9
known_id (m.Suggest i) = Some 13
known_id m.HaveAll = Some 14
known_id m.HaveNone = Some 15
known_id (m.Reject i b l) = Some 16
known_id (m.AllowedFast i) = Some 17
known_id (m.Extended e) = Some 20
known_id (m.Unknown n bytes) = None

abbrev pub id_of : {B E : Type 0} → MessageOver B E → Option ℕ
id_of (m.Unknown n bytes) = Some n
id_of msg = known_id msg

abbrev pub fields_of : Context → Message → Fields
fields_of c m.KeepAlive = none
fields_of c m.Choke = none
fields_of c m.Unchoke = none
fields_of c m.Interested = none
fields_of c m.NotInterested = none
fields_of c (m.Have i) = index i
fields_of c (m.Bitfield bits) = field bits
fields_of c (m.Request i b l) = part i b l
fields_of c (m.Piece i b bytes) = block i b bytes
fields_of c (m.Cancel i b l) = part i b l
fields_of c (m.Port p) = port p
fields_of c (m.Suggest i) = index i
fields_of c m.HaveAll = none
fields_of c m.HaveNone = none
fields_of c (m.Reject i b l) = part i b l
fields_of c (m.AllowedFast i) = index i
fields_of c (m.Extended e) = extended (unwrap_or (ext_id c.reg e) 0) (payload_of e)
fields_of c (m.Unknown n bytes) = payload bytes

-- ---- their bytes

abbrev pub spell_fields : Fields → List ℕ
spell_fields none = []
spell_fields (index i) = be32 i
spell_fields (part i b l) = be32 i ++ (be32 b ++ be32 l)
spell_fields (block i b bytes) = be32 i ++ (be32 b ++ bytes)
spell_fields (port p) = be16 p
spell_fields (field bits) = bits
spell_fields (extended n bytes) = n ∷ bytes
spell_fields (payload bytes) = bytes

abbrev pub framed : Option ℕ → List ℕ → List ℕ
framed None bytes = []
framed (Some n) bytes = n ∷ bytes

-- the id and the fields, or nothing for the keep-alive
abbrev pub body : Context → Message → List ℕ
body c m = framed (id_of m) (spell_fields (fields_of c m))

-- the length in four bytes, and that many bytes
abbrev pub spell : Context → Message → List ℕ
spell c m = be32 (length (body c m)) ++ body c m

-- ---- each number is below the bound of its field

abbrev pub AreInRange : Fields → Type 0
AreInRange none = ⊤
AreInRange (index i) = i < 2 ^ 32
AreInRange (part i b l) = (i < 2 ^ 32) × (b < 2 ^ 32) × (l < 2 ^ 32)
AreInRange (block i b bytes) = (i < 2 ^ 32) × (b < 2 ^ 32)
AreInRange (port p) = p < 2 ^ 16
AreInRange (field bits) = ⊤
AreInRange (extended n bytes) = n < 2 ^ 8
AreInRange (payload bytes) = ⊤

abbrev pub IsIdInRange : Option ℕ → Type 0
IsIdInRange None = ⊤
IsIdInRange (Some n) = n < 2 ^ 8

pub record IsInRange (c : Context) (m : Message) : Type 0 where
  pub id : IsIdInRange (id_of m)
  pub fields : AreInRange (fields_of c m)

-- a value has a spelling of its own: an unknown message has no id with a meaning, and an extended value has an extended id
-- and a dictionary that fits
abbrev pub IsShaped : Context → Message → Type 0
IsShaped c (m.Extended e) = HasSpelling c.reg e
IsShaped c (m.Unknown n bytes) = has_meaning n ≡ false
IsShaped c msg = ⊤

-- ---- the order of messages

-- what is known of a message: nothing of an unknown one and of a keep-alive
abbrev pub kind_in : {B E : Type 0} → MessageOver B E → Option Kind
kind_in m = option_and_then kind_of (known_id m)

abbrev pub counts : Turn → Bool
counts Apart = false
counts Counted = true
counts Opening = true

abbrev pub counts_by : Option Kind → Bool
counts_by None = false
counts_by (Some k) = counts k.turn

-- the order that a message leaves
abbrev pub order_after : {B E : Type 0} → Order → MessageOver B E → Order
order_after o m = if counts_by (kind_in m) then Past else o

-- ---- parts

-- the piece index that fields begin with
abbrev pub index_in : Fields → Option ℕ
index_in (index i) = Some i
index_in (part i b l) = Some i
index_in (block i b bytes) = Some i
index_in other = None

-- the bitfield
abbrev pub field_in : Fields → Option (List ℕ)
field_in (field bits) = Some bits
field_in other = None

-- whether they are the bytes after an id without a meaning
abbrev pub is_payload : Fields → Bool
is_payload (payload bytes) = true
is_payload other = false

-- whether fields keep bytes, for which an owned message takes memory
abbrev pub keeps_bytes : Fields → Bool
keeps_bytes (block i b bytes) = true
keeps_bytes (field bits) = true
keeps_bytes (extended n bytes) = true
keeps_bytes (payload bytes) = true
keeps_bytes other = false

-- a message over other bytes and another payload
abbrev pub map : {B C D E : Type 0} → (B → C) → (D → E) → MessageOver B D → MessageOver C E
map f g m.KeepAlive = m.KeepAlive
map f g m.Choke = m.Choke
map f g m.Unchoke = m.Unchoke
map f g m.Interested = m.Interested
map f g m.NotInterested = m.NotInterested
map f g (m.Have i) = m.Have i
map f g (m.Bitfield bits) = m.Bitfield (f bits)
map f g (m.Request i b l) = m.Request i b l
map f g (m.Piece i b bytes) = m.Piece i b (f bytes)
map f g (m.Cancel i b l) = m.Cancel i b l
map f g (m.Port p) = m.Port p
map f g (m.Suggest i) = m.Suggest i
map f g m.HaveAll = m.HaveAll
map f g m.HaveNone = m.HaveNone
map f g (m.Reject i b l) = m.Reject i b l
map f g (m.AllowedFast i) = m.AllowedFast i
map f g (m.Extended e) = m.Extended (g e)
map f g (m.Unknown n bytes) = m.Unknown n (f bytes)

-- the message that a view is
abbrev pub message_of : MessageView → Message
message_of v = map (λ bytes. bytes.now) ext_of_view v
