-- Why a stream is refused, as a sentence; tools/reasons.json has the same words.
use Rattle.std.specs.Prelude.{ℕ, ◌+◌, ◌-◌, ◌/◌, ◌==◌, List, [], ◌∷◌, ◌++◌, Option}
use Rattle.std.specs.Prelude.{Some, None, codes, decimal, nat_lt, unwrap_or, if◌then◌else◌}
use Rattle.hex.specs.Hex.{encode_lower}
use Rattle.bt_text.specs.declared.ended.Ended.{Ended}
use Rattle.bt_text.specs.declared.ended.Ended.TheVariants.{Refused}
use Rattle.bt_wire.specs.declared.context.Own.{Own}
use Rattle.bt_wire.specs.declared.fault.Reason.{Reason}
use Rattle.bt_wire.specs.declared.fault.Reason.TheVariants as reasons
use Rattle.bt_wire.specs.declared.item.Refusal.{Refusal}
use Rattle.bt_rows.specs.declared.refused.RefusedMessage.{RefusedMessage}

-- ---- ids of messages (BEP 3, 5, 6 and 10)

-- an id, and what its messages are called
pub record Named : Type 0 where
  pub number : ℕ
  pub name : List ℕ
  pub lengths : List ℕ

abbrev pub named : ℕ → List ℕ → List ℕ → Named
named number name lengths = record { number = number; name = name; lengths = lengths }

-- each id, the name of its messages, and the lengths that they may have if no piece count is known
abbrev pub rows : List Named
rows =
    named 0 (codes "choke") (codes "1")
    ∷ named 1 (codes "unchoke") (codes "1")
    ∷ named 2 (codes "interested") (codes "1")
    ∷ named 3 (codes "not interested") (codes "1")
    ∷ named 4 (codes "have") (codes "5")
    ∷ named 5 (codes "bitfield") (codes "1 or more")
    ∷ named 6 (codes "request") (codes "13")
    ∷ named 7 (codes "piece") (codes "9 or more")
    ∷ named 8 (codes "cancel") (codes "13")
    ∷ named 9 (codes "port") (codes "3")
    ∷ named 13 (codes "suggest piece") (codes "5")
    ∷ named 14 (codes "have all") (codes "1")
    ∷ named 15 (codes "have none") (codes "1")
    ∷ named 16 (codes "reject request") (codes "13")
    ∷ named 17 (codes "allowed fast") (codes "5")
    ∷ named 20 (codes "extended") (codes "2 or more")
    ∷ []

abbrev pub row_in : ℕ → List Named → Option Named
row_in n [] = None
row_in n (row ∷ rows) = if n == row.number then Some row else row_in n rows

abbrev pub called : ℕ → Option Named → List ℕ
called n None = codes "unknown (" ++ (decimal n ++ codes ")")
called n (Some row) = row.name

abbrev pub id_text : ℕ → List ℕ
id_text n = called n (row_in n rows)

abbrev pub any_lengths : Option Named → List ℕ
any_lengths None = codes "another"
any_lengths (Some row) = row.lengths

-- the length of a bitfield for this piece count: its id and a bit for each piece
abbrev pub bitfield_length : ℕ → ℕ
bitfield_length pieces = 1 + (pieces + 7) / 8

abbrev pub lengths_text : ℕ → Option ℕ → List ℕ
lengths_text n None = any_lengths (row_in n rows)
lengths_text n (Some pieces) =
    if n == 5 then decimal (bitfield_length pieces) ++ (codes " for " ++ (decimal pieces ++ codes " pieces")) else any_lengths (row_in n rows)

-- ---- sentences

abbrev pub byte_text : Option ℕ → List ℕ
byte_text None = codes "none"
byte_text (Some byte) = codes "0x" ++ encode_lower (byte ∷ [])

-- the extension that an id needs
abbrev pub extension_text : ℕ → List ℕ
extension_text id = if id == 20 then codes "Extension Protocol" else codes "Fast Extension"

-- a stream that ends after `inside` bytes of the handshake, of a length prefix, or of a message of this length prefix
abbrev pub end_sentence : ℕ → ℕ → ℕ → List ℕ
end_sentence message inside length =
    if message == 0 then codes "The stream ends inside the handshake, after " ++ (decimal inside ++ codes " of its 68 bytes")
    else if nat_lt inside 4 then codes "The stream ends inside the length of a message, after " ++ (decimal inside ++ codes " of its 4 bytes")
    else codes "The stream ends after " ++ (decimal inside ++ (codes " of the " ++ (decimal (4 + length) ++ codes " bytes of a message")))

-- no byte: the message ends inside the dictionary
abbrev pub bencode_sentence : ℕ → Option ℕ → List ℕ
bencode_sentence at None = codes "The payload has to begin with a bencoded dictionary, and the message ends inside it"
bencode_sentence at (Some byte) =
    codes "The payload has to begin with a bencoded dictionary, and none goes on with the byte "
    ++ (byte_text (Some byte) ++ (codes " at " ++ decimal at))

-- of an extended handshake, whose extended id is 0, or of a metadata message
abbrev pub field_sentence : ℕ → List ℕ
field_sentence ext =
    if ext == 0 then codes "In an extended handshake m has ids from 0 to 255 and metadata_size is an integer of at least 0, and here one is not"
    else codes "A metadata message has no key that its type needs, or the value is no such number"

-- the index before the piece count
abbrev pub last_index : ℕ → List ℕ
last_index pieces = if pieces == 0 then codes "-1" else decimal (pieces - 1)

abbrev pub reason_sentence : Reason → Refusal → RefusedMessage → Own → List ℕ
reason_sentence reasons.BadProtocol r m own =
    codes "A stream begins with the byte 19 and the text \"BitTorrent protocol\", and byte " ++ (decimal r.at ++ (codes " is " ++ byte_text m.byte))
reason_sentence reasons.WrongInfoHash r m own = codes "The info hash of the handshake is not the one that the receiver wants"
reason_sentence reasons.StreamFull r m own = codes "A message starts at 2^62 or above"
reason_sentence reasons.TooLong r m own =
    codes "The message has the length " ++ (decimal m.length ++ (codes ", and the receiver takes at most " ++ decimal own.limit))
reason_sentence reasons.UnknownId r m own = codes "The message has the id " ++ (decimal m.id ++ codes ", and BEP 3, 5, 6 and 10 have no such id")
reason_sentence reasons.NotNegotiated r m own =
    codes "A " ++ (id_text m.id ++ (codes " message needs the "
    ++ (extension_text m.id ++ codes ", and the two handshakes do not both have its reserved bit")))
reason_sentence reasons.WrongLength r m own =
    codes "The message has the length " ++ (decimal m.length ++ (codes ", and the length of a "
    ++ (id_text m.id ++ (codes " message is " ++ lengths_text m.id own.pieces))))
reason_sentence reasons.Late r m own =
    codes "A " ++ (id_text m.id ++ codes " message may only come first, and a message that counts came before it")
reason_sentence reasons.Missing r m own =
    codes "Both peers have the Fast Extension, so a bitfield, have all or have none has to come first, and " ++ (id_text m.id ++ codes " came")
reason_sentence reasons.BadIndex r m own =
    codes "The " ++ (id_text m.id ++ (codes " message names piece " ++ (decimal m.index ++ (codes ", and the torrent has "
    ++ (decimal (unwrap_or own.pieces 0) ++ (codes " pieces, so the last index is " ++ last_index (unwrap_or own.pieces 0)))))))
reason_sentence reasons.SpareBits r m own =
    codes "The torrent has " ++ (decimal (unwrap_or own.pieces 0) ++ (codes " pieces, and the last byte of the bitfield is "
    ++ (byte_text m.byte ++ codes ", which has a 1 after them")))
reason_sentence reasons.EndInside r m own = end_sentence r.message (r.at - m.start) m.length
reason_sentence reasons.BadExtLength r m own =
    codes "A message that takes back a piece has four bytes after its extended id, and this one has another number"
reason_sentence reasons.BadBencode r m own = bencode_sentence r.at m.byte
reason_sentence reasons.Unsorted r m own =
    codes "The keys of a dictionary are in order, and the key at " ++ (decimal r.at ++ codes " is not above the one before it")
reason_sentence reasons.BadField r m own = field_sentence m.ext
reason_sentence reasons.BadBlock r m own =
    codes "What follows the dictionary has not the length that total_size and piece ask for; after a request or a reject is nothing"

abbrev pub why_text : Refusal → RefusedMessage → Own → List ℕ
why_text r m own = reason_sentence r.reason r m own

-- The line after a verdict. There is none if it is no refusal, if something limits it, or if what is refused isn't there.
abbrev pub why_line : Ended → List ℕ → Option RefusedMessage → Own → List ℕ
why_line (Refused r) [] (Some m) own = codes "    why  " ++ (why_text r m own ++ codes ".\n")
why_line ended limit m own = []
