-- The faults of the message that begins a byte list, as a table over the bytes.
use Rattle.std.specs.Prelude.{◌≡◌, ◌==◌, ℕ, ◌+◌, ◌^◌, Bool, true, false, not, ◌&&◌, List, [], ◌∷◌, map, length, take, drop, slice_index, nat_lt, nat_le}
use Rattle.std.specs.Prelude.{Option, Some, None, if◌then◌else◌}
use Rattle.bt_wire.specs.declared.context.Context.{Context}
use Rattle.bt_wire.specs.declared.context.Order.{Order}
use Rattle.bt_wire.specs.declared.fault.Reason.{Reason}
use Rattle.bt_wire.specs.declared.fault.Reason.TheVariants.{TooLong, UnknownId, NotNegotiated, WrongLength, BadIndex, SpareBits, BadExtLength, Late}
use Rattle.bt_wire.specs.declared.fault.Reason.TheVariants.{Missing, BadBencode, Unsorted, BadField, BadBlock, StreamFull}
use Rattle.bt_wire.specs.declared.fault.Refused.{Refused}
use Rattle.bt_wire.specs.declared.ids.Kind.{Kind}
use Rattle.bt_wire.specs.declared.ids.Shape.{Shape}
use Rattle.bt_wire.specs.declared.ids.Shape.TheVariants.{Nothing, Index, Part, Block, Port, Field, Extended}
use Rattle.bt_wire.specs.declared.ids.Needs.{Needs}
use Rattle.bt_wire.specs.declared.ids.Needs.TheVariants.{Neither, Fast, Extension}
use Rattle.bt_wire.specs.declared.ids.Turn.TheVariants.{Apart, Counted, Opening}
use Rattle.bt_ext.specs.declared.ids.Rules.TheVariants.{Free, Bep}
use Rattle.bt_ext.specs.declared.ext.ViewError.{ViewError}
use Rattle.bt_ext.specs.declared.ext.ViewError.TheVariants as error
use Rattle.bt_ext.specs.Faults as ext
use Rattle.bt_ext.specs.declared.ext.Ext.{Ext}
use Rattle.bt_ext.specs.Payloads.{index_of}
use Rattle.bt_wire.specs.declared.context.Order.TheVariants.{Fresh, Past}
use Rattle.bt_wire.specs.Bitfields.{field_bytes, has_spare}
use Rattle.bt_wire.specs.Numbers.{number32}
use Rattle.bt_wire.specs.Ids.{kind_of, has_meaning, shape_by}
use Rattle.bt_wire.specs.Tables.{Row, row, first_fault}

-- ---- what the bytes of a message say

-- the length that the first four bytes say, and the id after it
abbrev pub said_length : List ℕ → ℕ
said_length b = number32 b

abbrev pub said_id : List ℕ → ℕ
said_id b = slice_index b 4

-- whether the four bytes of the length are there; the id too; the whole message
abbrev pub has_length : List ℕ → Bool
has_length b = nat_le 4 (length b)

abbrev pub has_id : List ℕ → Bool
has_id b = nat_le 5 (length b) && not (said_length b == 0)

abbrev pub is_whole : List ℕ → Bool
is_whole b = has_length b && nat_le (4 + said_length b) (length b)

-- the bytes of the message, those of its length counted
abbrev pub window_length : List ℕ → ℕ
window_length b = 4 + said_length b

abbrev pub window : List ℕ → List ℕ
window b = take (window_length b) b

-- where a message's parts begin, counted from its start: the id after the length, the fields after the id, an extended
-- payload after the extended id
abbrev pub id_at : ℕ
id_at = 4

abbrev pub fields_at : ℕ
fields_at = 5

abbrev pub payload_at : ℕ
payload_at = 6

-- ---- what the rules ask of an id

pub data Size : Type 0 where
  Exactly : ℕ → Size
  AtLeast : ℕ → Size

abbrev pub allows : Size → ℕ → Bool
allows (Exactly n) length = length == n
allows (AtLeast n) length = nat_le n length

-- a bitfield has a bit for each piece, where their count is known
abbrev pub field_size : Option ℕ → Size
field_size None = AtLeast 1
field_size (Some pieces) = Exactly (1 + field_bytes pieces)

-- how long a message may be, its id counted
abbrev pub shape_size : Context → Shape → Size
shape_size c Nothing = Exactly 1
shape_size c Index = Exactly 5
shape_size c Part = Exactly 13
shape_size c Block = AtLeast 9
shape_size c Port = Exactly 3
shape_size c Field = field_size c.pieces
shape_size c Extended = AtLeast 2

abbrev pub size_by : Context → Option Shape → Size
size_by c None = AtLeast 1
size_by c (Some shape) = shape_size c shape

abbrev pub size_of : Context → ℕ → Size
size_of c n = size_by c (shape_by (kind_of n))

abbrev pub is_strict : Context → Bool
is_strict c = elim c.rules [ Free ↦ false | Bep ↦ true ]

-- whether both ends have agreed on the extension that a message of this kind needs
abbrev pub has_needs : Context → Needs → Bool
has_needs c Neither = true
has_needs c Fast = c.fast
has_needs c Extension = c.ext

abbrev pub is_agreed : Context → Option Kind → Bool
is_agreed c None = true
is_agreed c (Some k) = has_needs c k.needs

abbrev pub is_fresh : Order → Bool
is_fresh Fresh = true
is_fresh Past = false

-- BEP 3: "'bitfield' is only ever sent as the first message". BEP 6: one of bitfield, have all and have none must be sent
-- right after the handshakes. Here keep-alives, port, extended and unknown messages don't count.
abbrev pub is_late : Order → Option Kind → Bool
is_late o None = false
is_late o (Some k) = elim k.turn [ Apart ↦ false | Counted ↦ false | Opening ↦ not (is_fresh o) ]

abbrev pub is_missing : Context → Order → Option Kind → Bool
is_missing c o None = false
is_missing c o (Some k) = elim k.turn [ Apart ↦ false | Counted ↦ c.fast && is_fresh o | Opening ↦ false ]

-- whether the piece count is known and the index isn't below it
abbrev pub is_beyond : Option ℕ → ℕ → Bool
is_beyond None index = false
is_beyond (Some pieces) index = nat_le pieces index

-- whether an index is there and is not below a known piece count
abbrev pub is_index_beyond : Option ℕ → Option ℕ → Bool
is_index_beyond pieces None = false
is_index_beyond pieces (Some i) = is_beyond pieces i

-- the shapes whose fields begin with a piece index
abbrev pub has_index : Option Shape → Bool
has_index None = false
has_index (Some Nothing) = false
has_index (Some Index) = true
has_index (Some Part) = true
has_index (Some Block) = true
has_index (Some Port) = false
has_index (Some Field) = false
has_index (Some Extended) = false

abbrev pub is_field : Option Shape → Bool
is_field None = false
is_field (Some Nothing) = false
is_field (Some Index) = false
is_field (Some Part) = false
is_field (Some Block) = false
is_field (Some Port) = false
is_field (Some Field) = true
is_field (Some Extended) = false

-- ---- the table, in the order in which faults count

-- what is judged by the length and the id: the reason, the place from the message's start, and the condition on the id
-- and the length
pub record IdRule : Type 0 where
  pub reason : Reason
  pub at : ℕ
  pub condition : Context → Order → ℕ → ℕ → Bool

abbrev pub id_rule : Reason → ℕ → (Context → Order → ℕ → ℕ → Bool) → IdRule
id_rule reason at condition = record { reason = reason; at = at; condition = condition }

abbrev pub id_rules : List IdRule
id_rules =
    id_rule UnknownId id_at (λ c o id length. is_strict c && not (has_meaning id))
    ∷ id_rule NotNegotiated id_at (λ c o id length. not (is_agreed c (kind_of id)))
    ∷ id_rule WrongLength 0 (λ c o id length. not (allows (size_of c id) length))
    ∷ id_rule Late id_at (λ c o id length. is_strict c && is_late o (kind_of id))
    ∷ id_rule Missing id_at (λ c o id length. is_strict c && is_missing c o (kind_of id))
    ∷ []

abbrev pub id_row : Context → Order → List ℕ → IdRule → Row
id_row c o b r = row r.reason r.at (has_id b) (r.condition c o (said_id b) (said_length b))

-- what is judged by the first four bytes, and by the first five
abbrev pub header_rows : Context → Order → List ℕ → List Row
header_rows c o b = row TooLong 0 (has_length b) (nat_lt c.limit (said_length b)) ∷ map (id_row c o b) id_rules

-- what is judged by the fields of the whole message w
abbrev pub field_rows : Context → List ℕ → List Row
field_rows c w =
    row BadIndex fields_at (has_id w) (has_index (shape_by (kind_of (said_id w))) && is_beyond c.pieces (number32 (drop fields_at w)))
    ∷ row SpareBits (3 + said_length w) (has_id w) (is_field (shape_by (kind_of (said_id w))) && has_spare c.pieces (drop fields_at w))
    ∷ []

unfoldable pub header_fault : Context → Order → List ℕ → Option Refused
header_fault c o b = first_fault (header_rows c o b)

-- what the start and the first five bytes show: a message starts below 2 ^ 62
abbrev pub early_fault : Context → Order → ℕ → List ℕ → Option Refused
early_fault c o s b = if nat_le (2 ^ 62) s then Some (record { at = 0; reason = StreamFull }) else header_fault c o b

-- an extended message (BEP 10), its extended id and its payload
abbrev pub is_extended : List ℕ → Bool
is_extended w = has_id w && (said_id w == 20)

abbrev pub said_ext_id : List ℕ → ℕ
said_ext_id w = slice_index w 5

abbrev pub said_payload : List ℕ → List ℕ
said_payload w = drop payload_at w

-- the fault of a payload, by its place in the message
abbrev pub placed_by : ViewError → Refused
placed_by error.BadExtLength = record { at = payload_at; reason = BadExtLength }
placed_by (error.BadBencode at) = record { at = payload_at + at; reason = BadBencode }
placed_by (error.Unsorted at) = record { at = payload_at + at; reason = Unsorted }
placed_by error.BadField = record { at = payload_at; reason = BadField }
placed_by (error.BadBlock at) = record { at = payload_at + at; reason = BadBlock }

-- the fault of an extended value that is a piece index: one that isn't below the known piece count
abbrev pub index_fault : Option ℕ → Ext → Option Refused
index_fault pieces e = if is_index_beyond pieces (index_of e) then Some (record { at = payload_at; reason = BadIndex }) else None

-- the fault, if any, of an extended payload: it is that of no value that the rules allow, or one of the value's index
pub data IsPayloadFault (c : Context) (id : ℕ) (payload : List ℕ) (f : Option Refused) : Type 0 where
  in_bytes : (e : ViewError) → ext.Refuses c.reg c.rules id payload e → f ≡ Some (placed_by e) → IsPayloadFault c id payload f
  in_index : (v : Ext) → ext.Reads c.reg c.rules id payload v → f ≡ index_fault c.pieces v → IsPayloadFault c id payload f

-- the fault, if any, of the whole message w that has no early one: one of its fields, or else of its extended payload
pub data IsWindowFault (c : Context) (w : List ℕ) (f : Option Refused) : Type 0 where
  in_fields : (g : Refused) → first_fault (field_rows c w) ≡ Some g → f ≡ Some g → IsWindowFault c w f
  in_none : first_fault (field_rows c w) ≡ None → is_extended w ≡ false → f ≡ None → IsWindowFault c w f
  in_payload : first_fault (field_rows c w) ≡ None → is_extended w ≡ true → IsPayloadFault c (said_ext_id w) (said_payload w) f
      → IsWindowFault c w f

-- the fault, if any, of the message that begins b and starts at s: an early one, or else that of the whole message, once
-- it is there
pub data IsFault (c : Context) (o : Order) (s : ℕ) (b : List ℕ) (f : Option Refused) : Type 0 where
  early : (g : Refused) → early_fault c o s b ≡ Some g → f ≡ Some g → IsFault c o s b f
  unfinished : early_fault c o s b ≡ None → is_whole b ≡ false → f ≡ None → IsFault c o s b f
  whole : early_fault c o s b ≡ None → is_whole b ≡ true → IsWindowFault c (window b) f → IsFault c o s b f
