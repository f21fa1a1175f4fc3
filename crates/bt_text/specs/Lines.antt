-- The lines of `show`: one for each item of a stream, and one for the verdict. And what `pack` says of a refused line.
use Rattle.std.specs.Prelude.{ℕ, ◌-◌, List, [], ◌++◌, length, codes, decimal, false, Option, Some, None}
use Rattle.std.specs.List.{flat_map}
use Rattle.hex.specs.Hex.{encode_lower}
use Rattle.bt_bencode.specs.Bencoding.{ben}
use Rattle.bt_bencode.specs.Trees.{Tree}
use Rattle.bt_bencode.specs.Views.{tree_of}
use Rattle.bt_ext.specs.declared.ext.Ext.{Ext}
use Rattle.bt_ext.specs.declared.ext.Ext.TheVariants as ext
use Rattle.bt_ext.specs.declared.metadata.Kind.{Kind}
use Rattle.bt_ext.specs.declared.metadata.Kind.TheVariants as kinds
use Rattle.bt_ext.specs.Fields.{size_of, told_id}
use Rattle.bt_ext.specs.Ids.{metadata_only}
use Rattle.bt_ext.specs.declared.ids.Rules.TheVariants.{Free}
use Rattle.bt_ext.specs.Metadata.{kind_of}
use Rattle.bt_wire.specs.declared.context.Context.{Context}
use Rattle.bt_wire.specs.declared.context.Own.{Own}
use Rattle.bt_wire.specs.declared.handshake.Handshake.{Handshake}
use Rattle.bt_wire.specs.declared.item.Item.{Item}
use Rattle.bt_wire.specs.declared.item.Item.TheVariants as items
use Rattle.bt_wire.specs.declared.item.Refusal.{Refusal}
use Rattle.bt_wire.specs.Messages.{Message}
use Rattle.bt_wire.specs.declared.message.Message.TheVariants.{KeepAlive, Extended, Unknown}
use Rattle.bt_wire.specs.Handshakes.{negotiated}
use Rattle.bt_wire.specs.Ids.{Id, ids, row_in}
use Rattle.bt_wire.specs.Messages.{Fields, none, index, part, block, port, field, extended, payload, known_id, fields_of}
use Rattle.bt_wire.specs.Numbers.{be64}
use Rattle.bt_wire.specs.Reasons.{reason_name}
use Rattle.bt_wire.specs.Streams.{Outcome, refusal_at_end}
use Rattle.bt_text.specs.declared.ended.Ended.{Ended}
use Rattle.bt_text.specs.declared.ended.Ended.TheVariants.{Accepted, Refused}
use Rattle.bt_text.specs.declared.ended.ScriptReason.{ScriptReason}
use Rattle.bt_text.specs.declared.ended.ScriptReason.TheVariants.{Syntax, Reason as ReasonOf}
use Rattle.bt_text.specs.declared.ended.ToolFault.{ToolFault}
use Rattle.bt_text.specs.declared.ended.ToolFault.TheVariants as fault

-- ---- an item

-- a space and a number
abbrev pub spaced : ℕ → List ℕ
spaced n = codes " " ++ decimal n

-- fields by their shape; of bytes it is how many there are
abbrev pub field_words : Fields → List ℕ
field_words none = []
field_words (index i) = spaced i
field_words (part i b l) = spaced i ++ (spaced b ++ spaced l)
field_words (block i b bytes) = spaced i ++ (spaced b ++ spaced (length bytes))
field_words (port p) = spaced p
field_words (field bits) = spaced (length bits)
field_words (extended n bytes) = spaced n ++ spaced (length bytes)
field_words (payload bytes) = spaced (length bytes)

abbrev pub name_in : Option Id → List ℕ
name_in None = []
name_in (Some i) = i.name

-- the name in the table of ids
abbrev pub name_of : Option ℕ → List ℕ
name_of None = []
name_of (Some n) = name_in (row_in n ids)

-- what the receiver knows before a handshake: what the peer's reserved bits change isn't in a line
abbrev pub own_context : Own → Context
own_context own = negotiated own (record { 0 = 0 })

-- a context to see fields in whose words no context changes
abbrev pub no_context : Context
no_context = record { fast = false; ext = false; pieces = None; reg = metadata_only None; rules = Free; limit = 0 }

-- ---- an extended payload

abbrev pub or_dash : Option ℕ → List ℕ
or_dash None = codes "-"
or_dash (Some n) = decimal n

-- the length of the dictionary's spelling, and how many bytes follow it
abbrev pub lengths : Tree → List ℕ → List ℕ
lengths t rest = spaced (length (ben t)) ++ spaced (length rest)

abbrev pub kind_words : Kind → Tree → List ℕ → List ℕ
kind_words (kinds.Request piece) t rest = codes "metadata-request" ++ spaced piece
kind_words (kinds.Data piece total) t rest = codes "metadata-data" ++ (spaced piece ++ (spaced total ++ spaced (length rest)))
kind_words (kinds.Reject piece) t rest = codes "metadata-reject" ++ spaced piece
kind_words kinds.Other t rest = codes "metadata-other" ++ lengths t rest
kind_words kinds.Malformed t rest = codes "metadata-malformed" ++ lengths t rest

abbrev pub announced_words : Tree → List ℕ → List ℕ
announced_words t rest =
    codes "ext-handshake" ++ (lengths t rest ++ (codes " size=" ++ (or_dash (size_of t) ++ (codes " ut_metadata=" ++ or_dash (told_id t)))))

abbrev pub ext_words : Ext → List ℕ
ext_words (ext.Handshake dict rest) = announced_words (tree_of dict) rest
ext_words (ext.Metadata dict rest) = kind_words (kind_of (tree_of dict)) (tree_of dict) rest
ext_words (ext.DontHave i) = codes "donthave" ++ spaced i
ext_words (ext.Raw id bytes) = codes "extended" ++ (spaced id ++ spaced (length bytes))

-- ---- an item's line

abbrev pub message_words : Message → List ℕ
message_words KeepAlive = codes "keep-alive"
message_words (Extended e) = ext_words e
message_words (Unknown n bytes) = codes "unknown" ++ (spaced n ++ spaced (length bytes))
message_words m = name_of (known_id m) ++ field_words (fields_of no_context m)

-- the reserved bytes, the info hash and the peer id in hex
abbrev pub handshake_words : Handshake → List ℕ
handshake_words h =
    codes "handshake " ++ (encode_lower (be64 h.reserved.0) ++ (codes " " ++ (encode_lower h.info_hash ++ (codes " " ++ encode_lower h.peer_id))))

abbrev pub words : Item → List ℕ
words (items.Handshake h) = handshake_words h
words (items.Message m) = message_words m

-- its offset and its words
abbrev pub item_line : ℕ × Item → List ℕ
item_line p = decimal p.0 ++ (codes " " ++ (words p.1 ++ codes "\n"))

-- the line is the same for each receiver
abbrev pub line : Own → ℕ × Item → List ℕ
line own p = item_line p

-- ---- the verdict

abbrev pub verdict_line : Ended → List ℕ
verdict_line (Accepted messages bytes) =
    codes "ok messages=" ++ (decimal messages ++ (codes " bytes=" ++ (decimal bytes ++ codes "\n")))
verdict_line (Refused r) =
    codes "refused message=" ++ (decimal r.message ++ (codes " at=" ++ (decimal r.at ++ (codes " " ++ (reason_name r.reason ++ codes "\n")))))

-- ---- a script's line that is refused

abbrev pub script_reason_name : ScriptReason → List ℕ
script_reason_name Syntax = codes "Syntax"
script_reason_name (ReasonOf r) = reason_name r

abbrev pub refused_line : ℕ → ScriptReason → List ℕ
refused_line n reason = codes "refused line=" ++ (decimal n ++ (codes " " ++ (script_reason_name reason ++ codes "\n")))

-- ---- a fault

abbrev pub fault_line : ToolFault → List ℕ
fault_line fault.Read = codes "fault: read\n"
fault_line fault.Write = codes "fault: write\n"
fault_line fault.Memory = codes "fault: memory\n"
fault_line fault.Turns = codes "fault: turns\n"
fault_line fault.Net = codes "fault: net\n"

-- ---- the end of a stream

-- a stream of n bytes: its refusal at the end, or the messages that follow the handshake and the bytes
abbrev pub ended_by : Option Refusal → ℕ → ℕ → Ended
ended_by (Some r) number n = Refused r
ended_by None number n = Accepted (number - 1) n

abbrev pub ended_as : Outcome → ℕ → Ended
ended_as v n = ended_by (refusal_at_end v) v.number n

-- ---- a whole stream of n bytes with the outcome v

abbrev pub lines_of : Own → Outcome → ℕ → List ℕ
lines_of own v n = flat_map (line own) v.items ++ verdict_line (ended_as v n)
