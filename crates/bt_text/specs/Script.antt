-- The lines of a script: one for each item of a stream, with all of the item's bytes. What is written for an item stands
-- first, and then, apart from it, which texts are lines and what bytes each names.
use Rattle.std.specs.Prelude.{◌==◌, ◌||◌, ◌&&◌, not, ◌≡◌, ℕ, ◌+◌, ◌<◌, Bool, true, false, List, [], ◌∷◌, ◌++◌, length, codes, Option, Some, None, Ok}
use Rattle.std.specs.List.{flat_map}
use Rattle.hex.specs.Hex.{encode_lower, decode_of}
use Rattle.bt_ext.specs.Payloads.{payload_of}
use Rattle.bt_wire.specs.declared.context.Own.{Own}
use Rattle.bt_wire.specs.declared.handshake.Handshake.{Handshake}
use Rattle.bt_wire.specs.declared.ids.Shape.{Shape}
use Rattle.bt_wire.specs.declared.ids.Shape.TheVariants as shapes
use Rattle.bt_wire.specs.declared.item.Item.{Item}
use Rattle.bt_wire.specs.declared.item.Item.TheVariants as items
use Rattle.bt_wire.specs.Messages.{Message}
use Rattle.bt_wire.specs.declared.message.Message.TheVariants.{KeepAlive, Bitfield, Piece, Extended, Unknown}
use Rattle.bt_wire.specs.Handshakes.{hand, IsHandshake}
use Rattle.bt_wire.specs.Ids.{Id, ids, has_meaning, row_named}
use Rattle.bt_wire.specs.Messages.{Fields, none, index, part, block, port, field, extended, payload, known_id, fields_of, spell_fields, AreInRange}
use Rattle.bt_wire.specs.Numbers.{be32, be64}
use Rattle.bt_text.specs.Lines.{spaced, name_of, own_context, handshake_words}

-- whether there is a line feed
abbrev pub has_feed : List ℕ → Bool
has_feed [] = false
has_feed (c ∷ cs) = c == 10 || has_feed cs

abbrev pub has_no_space : List ℕ → Bool
has_no_space [] = true
has_no_space (c ∷ cs) = not (c == 32) && has_no_space cs

-- ---- the line that is written for an item

-- lower-case hex; no bytes are `-`
abbrev pub hex_or_dash : List ℕ → List ℕ
hex_or_dash [] = codes "-"
hex_or_dash (byte ∷ bytes) = encode_lower (byte ∷ bytes)

abbrev pub spaced_hex : List ℕ → List ℕ
spaced_hex bytes = codes " " ++ hex_or_dash bytes

-- fields by their shape
abbrev pub script_fields : Fields → List ℕ
script_fields none = []
script_fields (index i) = spaced i
script_fields (part i b l) = spaced i ++ (spaced b ++ spaced l)
script_fields (block i b bytes) = spaced i ++ (spaced b ++ spaced_hex bytes)
script_fields (port p) = spaced p
script_fields (field bits) = spaced_hex bits
script_fields (extended n bytes) = spaced n ++ spaced_hex bytes
script_fields (payload bytes) = spaced_hex bytes

abbrev pub script_message : Own → Message → List ℕ
script_message own KeepAlive = codes "keep-alive"
script_message own (Unknown n bytes) = codes "unknown" ++ (spaced n ++ spaced_hex bytes)
script_message own m = name_of (known_id m) ++ script_fields (fields_of (own_context own) m)

abbrev pub script_words : Own → Item → List ℕ
script_words own (items.Handshake h) = handshake_words h
script_words own (items.Message m) = script_message own m

-- how many bytes of a message stand in its line in hex
abbrev pub kept : Message → ℕ
kept (Bitfield bits) = length bits
kept (Piece i b bytes) = length bytes
kept (Extended e) = length (payload_of e)
kept (Unknown n bytes) = length bytes
kept m = 0

-- with its line feed
abbrev pub script_line : Own → Item → List ℕ
script_line own item = script_words own item ++ codes "\n"

-- the lines of the items of a stream, which stand with their offsets
abbrev pub script : Own → List (ℕ × Item) → List ℕ
script own placed = flat_map (λ p. script_line own p.1) placed

-- ---- which texts are lines

-- the word is `-` for no bytes, or these bytes in hex digits of either case
abbrev pub SaysBytes : List ℕ → List ℕ → Type 0
SaysBytes word [] = word ≡ codes "-"
SaysBytes word (byte ∷ bytes) = decode_of word ≡ Ok (byte ∷ bytes)

-- the text is a space and such a word
abbrev pub SaysSpaced : List ℕ → List ℕ → Type 0
SaysSpaced text bytes = (word : List ℕ) × (text ≡ codes " " ++ word) × SaysBytes word bytes

-- the text that follows a name says these fields, by their shape
abbrev pub SaysFields : List ℕ → Fields → Type 0
SaysFields text none = text ≡ []
SaysFields text (index i) = text ≡ spaced i
SaysFields text (part i b l) = text ≡ spaced i ++ (spaced b ++ spaced l)
SaysFields text (block i b bytes) = (rest : List ℕ) × (text ≡ spaced i ++ (spaced b ++ rest)) × SaysSpaced rest bytes
SaysFields text (port p) = text ≡ spaced p
SaysFields text (field bits) = SaysSpaced text bits
SaysFields text (extended n bytes) = (rest : List ℕ) × (text ≡ spaced n ++ rest) × SaysSpaced rest bytes
SaysFields text (payload bytes) = SaysSpaced text bytes

-- the shape of the fields of an id with a meaning
abbrev pub shape_of : Fields → Option Shape
shape_of none = Some shapes.Nothing
shape_of (index i) = Some shapes.Index
shape_of (part i b l) = Some shapes.Part
shape_of (block i b bytes) = Some shapes.Block
shape_of (port p) = Some shapes.Port
shape_of (field bits) = Some shapes.Field
shape_of (extended n bytes) = Some shapes.Extended
shape_of (payload bytes) = None

-- the name is that of the row, the fields are of its shape, and their numbers within their bounds
pub record IsOfRow (name : List ℕ) (i : Id) (f : Fields) : Type 0 where
  pub named : row_named name ids ≡ Some i
  pub shape : shape_of f ≡ Some i.kind.shape
  pub fields : AreInRange f

-- a message as a line names it: a keep-alive, a row of the table and fields, or an id without a meaning and its payload
pub data Said : Type 0 where
  keep_alive : Said
  known : Id → Fields → Said
  unknown : ℕ → List ℕ → Said

abbrev pub Says : List ℕ → Said → Type 0
Says text keep_alive = text ≡ codes "keep-alive"
Says text (known i f) = (name : List ℕ) × (rest : List ℕ) × (text ≡ name ++ rest) × IsOfRow name i f × SaysFields rest f
Says text (unknown n bytes) =
    (rest : List ℕ) × (text ≡ codes "unknown" ++ (spaced n ++ rest)) × (n < 256) × (has_meaning n ≡ false) × SaysSpaced rest bytes

-- the length in four bytes, the id and the fields
abbrev pub framed_by : ℕ → List ℕ → List ℕ
framed_by n fields = be32 (1 + length fields) ++ (n ∷ fields)

abbrev pub said_bytes : Said → List ℕ
said_bytes keep_alive = be32 0
said_bytes (known i f) = framed_by i.number (spell_fields f)
said_bytes (unknown n bytes) = framed_by n bytes

-- the line of a message with these bytes, which need not be legal
abbrev pub IsMessageLine : List ℕ → List ℕ → Type 0
IsMessageLine text bytes = (s : Said) × Says text s × (bytes ≡ said_bytes s)

-- the words of a handshake with these fields: the reserved bytes, the info hash and the peer id in hex digits of either case
pub record HasHandshakeWords (text reserved info peer : List ℕ) (h : Handshake) : Type 0 where
  pub parts : text ≡ codes "handshake " ++ (reserved ++ (codes " " ++ (info ++ (codes " " ++ peer))))
  pub reserved_bytes : decode_of reserved ≡ Ok (be64 h.reserved.0)
  pub info_bytes : decode_of info ≡ Ok h.info_hash
  pub peer_bytes : decode_of peer ≡ Ok h.peer_id
  pub fits : IsHandshake h

abbrev pub SaysHandshake : List ℕ → Handshake → Type 0
SaysHandshake text h = (reserved : List ℕ) × (info : List ℕ) × (peer : List ℕ) × HasHandshakeWords text reserved info peer h

abbrev pub IsHandshakeLine : List ℕ → List ℕ → Type 0
IsHandshakeLine text bytes = (h : Handshake) × SaysHandshake text h × (bytes ≡ hand h)

-- the text, without its line feed, is a line with these bytes: of a handshake if it is the first of its script, and of a
-- message if not
abbrev pub IsLine : Bool → List ℕ → List ℕ → Type 0
IsLine true text bytes = IsHandshakeLine text bytes
IsLine false text bytes = IsMessageLine text bytes

-- what reading a line answers: whether it is one, and then its bytes
abbrev pub IsAnswer : Bool → List ℕ → List ℕ → Bool → Type 0
IsAnswer first text bytes true = IsLine first text bytes
IsAnswer first text bytes false = (other : List ℕ) → IsLine first text other → ⊥

-- what adding the bytes of a line answers: whether it is one, and then its bytes follow the old ones
abbrev pub IsAdded : Bool → List ℕ → List ℕ → List ℕ → Bool → Type 0
IsAdded first text old new true = (bytes : List ℕ) × IsLine first text bytes × (new ≡ old ++ bytes)
IsAdded first text old new false = ((other : List ℕ) → IsLine first text other → ⊥) × (new ≡ old)
