-- Members of JSON objects (RFC 8259), each after a comma. An item has those of `show --json`, without texts of any length.
use Rattle.std.specs.Prelude.{◌≡◌, ℕ, ◌==◌, ◌||◌, List, [], ◌∷◌, ◌++◌, Some, codes, decimal, if◌then◌else◌}
use Rattle.hex.specs.Hex.{encode_lower}
use Rattle.json.specs.Print.{token_text}
use Rattle.bt_text.specs.declared.ended.Ended.{Ended}
use Rattle.bt_text.specs.declared.ended.Ended.TheVariants.{Accepted, Refused}
use Rattle.bt_json.specs.Members.{IsShort, rest_of_line}
use Rattle.bt_json.specs.Objects.{handshake_fields, message_fields, text_or_null}
use Rattle.bt_wire.specs.declared.context.Own.{Own}
use Rattle.bt_wire.specs.declared.item.Item.{Item}
use Rattle.bt_wire.specs.declared.item.Item.TheVariants as items
use Rattle.bt_wire.specs.Messages.{Message}
use Rattle.bt_wire.specs.Numbers.{be64}
use Rattle.bt_wire.specs.Reasons.{reason_name}
use Rattle.bt_rows.specs.declared.said.Name.{Name}
use Rattle.bt_rows.specs.declared.said.Name.TheVariants as name
use Rattle.bt_rows.specs.declared.said.Numbers.{Numbers}
use Rattle.bt_rows.specs.declared.said.Numbers.TheVariants.{Zero, One, Two, Three}
use Rattle.bt_rows.specs.declared.said.Said.{Said}
use Rattle.bt_rows.specs.declared.said.Words.{Words}
use Rattle.bt_rows.specs.declared.said.Words.TheVariants as words
use Rattle.bt_rows.specs.Numbers.{option_text}
use Rattle.bt_rows.specs.Said.{name_text}

-- printable ASCII between quotes (section 7)
abbrev pub escaped : List ℕ → List ℕ
escaped [] = []
escaped (byte ∷ bytes) = (if (byte == 34) || (byte == 92) then 92 ∷ byte ∷ [] else byte ∷ []) ++ escaped bytes

-- ---- an item

-- what the numbers after a message's name are
abbrev pub first_key : Name → List ℕ
first_key name.Bitfield = codes "bytes"
first_key name.Port = codes "port"
first_key name.Extended = codes "id"
first_key name.Unknown = codes "id"
first_key name.MetadataRequest = codes "piece"
first_key name.MetadataData = codes "piece"
first_key name.MetadataReject = codes "piece"
first_key name.MetadataOther = codes "dictionary"
first_key name.MetadataMalformed = codes "dictionary"
first_key name = codes "index"

abbrev pub second_key : Name → List ℕ
second_key name.Extended = codes "bytes"
second_key name.Unknown = codes "bytes"
second_key name.MetadataData = codes "total_size"
second_key name.MetadataOther = codes "rest"
second_key name.MetadataMalformed = codes "rest"
second_key name = codes "begin"

abbrev pub third_key : Name → List ℕ
third_key name.Piece = codes "bytes"
third_key name.MetadataData = codes "bytes"
third_key name = codes "length"

abbrev pub key_text : List ℕ → List ℕ
key_text key = codes ",\"" ++ (key ++ codes "\":")

abbrev pub member : List ℕ → ℕ → List ℕ
member key n = codes ",\"" ++ (key ++ (codes "\":" ++ decimal n))

abbrev pub number_members : Name → Numbers → List ℕ
number_members name Zero = []
number_members name (One n) = member (first_key name) n
number_members name (Two n m) = member (first_key name) n ++ member (second_key name) m
number_members name (Three n m k) = member (first_key name) n ++ (member (second_key name) m ++ member (third_key name) k)

abbrev pub words_members : Words → List ℕ
words_members (words.Handshake h) =
    codes ",\"item\":\"handshake\",\"reserved\":\"" ++ (encode_lower (be64 h.reserved.0) ++ (codes "\",\"info_hash\":\"" ++ (encode_lower h.info_hash
    ++ (codes "\",\"peer_id\":\"" ++ (encode_lower h.peer_id ++ (codes "\",\"peer_id_text\":" ++ token_text (text_or_null (Some h.peer_id))))))))
words_members (words.Announced dict rest size id) =
    (codes ",\"item\":\"ext-handshake\",\"dictionary\":" ++ (decimal dict ++ (codes ",\"rest\":" ++ decimal rest)))
    ++ (option_text (codes ",\"metadata_size\":") size ++ option_text (codes ",\"ut_metadata\":") id)
words_members (words.Message name numbers) = codes ",\"item\":\"" ++ (name_text name ++ (codes "\"" ++ number_members name numbers))

-- `show --json` has these members of it too, and no other ones, if it is no extended handshake, which has a client's name there
abbrev pub IsShown : Message → Words → Type 0
IsShown m said = (own : Own) → IsShort m → words_members said ++ codes "}\n" ≡ rest_of_line (message_fields own m)

abbrev pub IsItemShown : Item → Words → Type 0
IsItemShown (items.Handshake h) said = words_members said ++ codes "}\n" ≡ rest_of_line (handshake_fields h)
IsItemShown (items.Message m) said = IsShown m said

-- an item and its offset
abbrev pub said_object : Said → List ℕ
said_object s = (codes "{\"offset\":" ++ decimal s.offset) ++ (words_members s.words ++ codes "}")

-- ---- a verdict, without the first comma

abbrev pub verdict_members : Ended → List ℕ
verdict_members (Accepted messages bytes) = codes "\"verdict\":\"ok\",\"messages\":" ++ (decimal messages ++ (codes ",\"bytes\":" ++ decimal bytes))
verdict_members (Refused r) =
    codes "\"verdict\":\"refused\",\"message\":" ++ (decimal r.message ++ (codes ",\"offset\":" ++ (decimal r.at
    ++ (codes ",\"reason\":\"" ++ (reason_name r.reason ++ codes "\"")))))
