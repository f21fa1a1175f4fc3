-- The lines of `show --json`: the tokens of a JSON object for each item and for the verdict, and their text.
use Rattle.std.specs.Prelude.{ℕ, List, [], ◌∷◌, ◌++◌, length, codes, decimal, Option, Some, None, option_and_then, if◌then◌else◌}
use Rattle.std.specs.Str.{is_utf8}
use Rattle.std.specs.List.{flat_map}
use Rattle.hex.specs.Hex.{encode_lower}
use Rattle.json.specs.Token.{Token, begin_object, end_object, key, string, number, null}
use Rattle.json.specs.Print.{print}
use Rattle.bt_bencode.specs.Bencoding.{ben}
use Rattle.bt_bencode.specs.Keys.{lookup_of}
use Rattle.bt_bencode.specs.LookUps.{string_of}
use Rattle.bt_bencode.specs.Trees.{Tree}
use Rattle.bt_bencode.specs.Views.{tree_of}
use Rattle.bt_ext.specs.declared.ext.Ext.{Ext}
use Rattle.bt_ext.specs.declared.ext.Ext.TheVariants as ext
use Rattle.bt_ext.specs.declared.metadata.Kind.{Kind}
use Rattle.bt_ext.specs.declared.metadata.Kind.TheVariants as kinds
use Rattle.bt_ext.specs.Fields.{size_of, told_id}
use Rattle.bt_ext.specs.Metadata.{kind_of}
use Rattle.bt_wire.specs.declared.context.Own.{Own}
use Rattle.bt_wire.specs.declared.handshake.Handshake.{Handshake}
use Rattle.bt_wire.specs.declared.item.Item.{Item}
use Rattle.bt_wire.specs.declared.item.Item.TheVariants as items
use Rattle.bt_wire.specs.Messages.{Message}
use Rattle.bt_wire.specs.declared.message.Message.TheVariants.{KeepAlive, Extended, Unknown}
use Rattle.bt_wire.specs.Messages.{Fields, none, index, part, block, port, field, extended, payload, known_id, fields_of}
use Rattle.bt_wire.specs.Numbers.{be64}
use Rattle.bt_wire.specs.Streams.{Outcome}
use Rattle.bt_text.specs.declared.ended.Ended.{Ended}
use Rattle.bt_text.specs.declared.ended.Ended.TheVariants.{Accepted, Refused}
use Rattle.bt_text.specs.Lines.{name_of, own_context, ended_as}
use Rattle.bt_wire.specs.Reasons.{reason_name}

-- ---- a field

-- a field whose value is this token
unfoldable pub a_field : List ℕ → Token → List Token
a_field name value = key name ∷ value ∷ []

abbrev pub a_number : List ℕ → ℕ → List Token
a_number name n = a_field name (number (decimal n))

abbrev pub a_text : List ℕ → List ℕ → List Token
a_text name s = a_field name (string s)

-- the number, or null for none
abbrev pub number_or_null : Option ℕ → Token
number_or_null None = null
number_or_null (Some n) = number (decimal n)

-- bytes that are UTF-8 as a string, and null for others and for none
abbrev pub text_or_null : Option (List ℕ) → Token
text_or_null None = null
text_or_null (Some s) = if is_utf8 s then string s else null

-- ---- an item's fields

-- which kind of item it is, by the name that `show` gives it
abbrev pub kind_field : List ℕ → List Token
kind_field name = a_text (codes "item") name

-- fields by their shape; of bytes it is how many there are
abbrev pub shape_fields : Fields → List Token
shape_fields none = []
shape_fields (index i) = a_number (codes "index") i
shape_fields (part i b l) = a_number (codes "index") i ++ (a_number (codes "begin") b ++ a_number (codes "length") l)
shape_fields (block i b bytes) = a_number (codes "index") i ++ (a_number (codes "begin") b ++ a_number (codes "bytes") (length bytes))
shape_fields (port p) = a_number (codes "port") p
shape_fields (field bits) = a_number (codes "bytes") (length bits)
shape_fields (extended n bytes) = a_number (codes "id") n ++ a_number (codes "bytes") (length bytes)
shape_fields (payload bytes) = a_number (codes "bytes") (length bytes)

-- the length of the dictionary's spelling, and how many bytes follow it
abbrev pub size_fields : Tree → List ℕ → List Token
size_fields t rest = a_number (codes "dictionary") (length (ben t)) ++ a_number (codes "rest") (length rest)

-- the byte string under `v`, which is the client's name and version (BEP 10)
abbrev pub client_in : Tree → Option (List ℕ)
client_in t = option_and_then string_of (lookup_of (codes "v") t)

abbrev pub metadata_fields : Kind → Tree → List ℕ → List Token
metadata_fields (kinds.Request piece) t rest = kind_field (codes "metadata-request") ++ a_number (codes "piece") piece
metadata_fields (kinds.Data piece total) t rest =
    kind_field (codes "metadata-data") ++ (a_number (codes "piece") piece ++ (a_number (codes "total_size") total ++ a_number (codes "bytes") (length rest)))
metadata_fields (kinds.Reject piece) t rest = kind_field (codes "metadata-reject") ++ a_number (codes "piece") piece
metadata_fields kinds.Other t rest = kind_field (codes "metadata-other") ++ size_fields t rest
metadata_fields kinds.Malformed t rest = kind_field (codes "metadata-malformed") ++ size_fields t rest

abbrev pub announced_fields : Tree → List Token
announced_fields t =
    a_field (codes "metadata_size") (number_or_null (size_of t)) ++ (a_field (codes "ut_metadata") (number_or_null (told_id t))
    ++ a_field (codes "client") (text_or_null (client_in t)))

abbrev pub ext_fields : Ext → List Token
ext_fields (ext.Handshake dict rest) = kind_field (codes "ext-handshake") ++ (size_fields (tree_of dict) rest ++ announced_fields (tree_of dict))
ext_fields (ext.Metadata dict rest) = metadata_fields (kind_of (tree_of dict)) (tree_of dict) rest
ext_fields (ext.DontHave i) = kind_field (codes "donthave") ++ a_number (codes "index") i
ext_fields (ext.Raw id bytes) = kind_field (codes "extended") ++ (a_number (codes "id") id ++ a_number (codes "bytes") (length bytes))

abbrev pub message_fields : Own → Message → List Token
message_fields own KeepAlive = kind_field (codes "keep-alive")
message_fields own (Extended e) = ext_fields e
message_fields own (Unknown n bytes) = kind_field (codes "unknown") ++ (a_number (codes "id") n ++ a_number (codes "bytes") (length bytes))
message_fields own m = kind_field (name_of (known_id m)) ++ shape_fields (fields_of (own_context own) m)

-- the reserved bytes, the info hash and the peer id in hex, and the peer id as text
abbrev pub handshake_fields : Handshake → List Token
handshake_fields h =
    kind_field (codes "handshake")
    ++ (a_text (codes "reserved") (encode_lower (be64 h.reserved.0))
    ++ (a_text (codes "info_hash") (encode_lower h.info_hash)
    ++ (a_text (codes "peer_id") (encode_lower h.peer_id) ++ a_field (codes "peer_id_text") (text_or_null (Some h.peer_id)))))

abbrev pub item_fields : Own → Item → List Token
item_fields own (items.Handshake h) = handshake_fields h
item_fields own (items.Message m) = message_fields own m

-- ---- an object's line

-- the text of an object with these fields, without spaces, and a line feed
abbrev pub object_line : List Token → List ℕ
object_line fields = print (begin_object ∷ (fields ++ end_object ∷ [])) ++ codes "\n"

-- its offset and its fields
abbrev pub line : Own → ℕ × Item → List ℕ
line own p = object_line (a_number (codes "offset") p.0 ++ item_fields own p.1)

-- ---- the verdict

abbrev pub verdict_fields : Ended → List Token
verdict_fields (Accepted messages bytes) = a_text (codes "verdict") (codes "ok") ++ (a_number (codes "messages") messages ++ a_number (codes "bytes") bytes)
verdict_fields (Refused r) =
    a_text (codes "verdict") (codes "refused") ++ (a_number (codes "message") r.message
    ++ (a_number (codes "offset") r.at ++ a_text (codes "reason") (reason_name r.reason)))

abbrev pub verdict_line : Ended → List ℕ
verdict_line e = object_line (verdict_fields e)

-- ---- a whole stream of n bytes with the outcome v

abbrev pub lines_of : Own → Outcome → ℕ → List ℕ
lines_of own v n = flat_map (line own) v.items ++ verdict_line (ended_as v n)
