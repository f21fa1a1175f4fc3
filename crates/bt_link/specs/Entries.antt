-- What a line of a link's script says.
use Rattle.std.specs.Prelude.{◌≡◌, ℕ, ◌+◌, ◌==◌, ◌&&◌, nat_le, nat_lt, true, false, List, take, drop, codes, position, Option, Some, None, option_map}
use Rattle.std.specs.Prelude.{option_and_then, if◌then◌else◌}
use Rattle.std.specs.Int.{w64, from_be_bytes}
use Rattle.std.specs.Result.{result_ok}
use Rattle.std.specs.Str.{bytes_eq}
use Rattle.hex.specs.Hex.{decode_sized}
use Rattle.bt_ext.specs.declared.ids.Rules.{Rules}
use Rattle.bt_ext.specs.declared.ids.Rules.TheVariants.{Free, Bep}
use Rattle.bt_ext.specs.Ids.{extension_id, metadata_only}
use Rattle.bt_wire.specs.declared.context.Context.{Context}
use Rattle.bt_wire.specs.declared.context.Order.TheVariants.{Past}
use Rattle.bt_wire.specs.Messages.{Message}
use Rattle.bt_wire.specs.Legal.{IsSaid}
use Rattle.bt_wire.specs.Messages.{spell}
use Rattle.bt_metadata.specs.Blocks.{window}
use Rattle.bt_end.specs.declared.config.Announce.{Announce}
use Rattle.bt_end.specs.declared.config.Announce.TheVariants as announce
use Rattle.bt_session.specs.declared.link.Side.{Side}
use Rattle.bt_session.specs.declared.link.Side.TheVariants.{Left, Right}
use Rattle.bt_session.specs.declared.link.Step.TheVariants as steps
use Rattle.bt_text.specs.Script.{IsLine}
use Rattle.bt_text.specs.ScriptReading.{number_in_word, bytes_in_word}
use Rattle.bt_link.specs.declared.entry.Entry.{Entry}
use Rattle.bt_link.specs.declared.entry.Entry.TheVariants.{Set, Do}
use Rattle.bt_link.specs.declared.entry.Setting.{Setting}
use Rattle.bt_link.specs.declared.entry.Setting.TheVariants as settings

-- ---- words

-- what stands before the first space of a text, and what stands after it; none where there is no space
abbrev pub cut_of : List ℕ → Option (List ℕ × List ℕ)
cut_of text = option_map (λ n. (take n text, drop (n + 1) text)) (position (λ c. c == 32) text)

abbrev pub side_of : List ℕ → Option Side
side_of word = if bytes_eq word (codes "left") then Some Left else if bytes_eq word (codes "right") then Some Right else None

-- a side, and what stands after it
abbrev pub sided_by : List ℕ × List ℕ → Option (Side × List ℕ)
sided_by p = option_map (λ s. (s, p.1)) (side_of p.0)

abbrev pub sided_of : List ℕ → Option (Side × List ℕ)
sided_of text = option_and_then sided_by (cut_of text)

-- ---- settings

-- the bytes of 40 hex digits
abbrev pub hash_of : List ℕ → Option (List ℕ)
hash_of word = result_ok (decode_sized word 20)

-- 16 hex digits, the highest first
abbrev pub bits_of : List ℕ → Option ℕ
bits_of word = option_map (from_be_bytes w64) (result_ok (decode_sized word 8))

-- an id, of which 0 is none
abbrev pub id_of : ℕ → Option (Option ℕ)
id_of n = if nat_lt n 256 then Some (extension_id n) else None

abbrev pub window_of : ℕ → Option ℕ
window_of n = if nat_lt 0 n && nat_le n window then Some n else None

abbrev pub rules_of : List ℕ → Option Rules
rules_of word = if bytes_eq word (codes "free") then Some Free else if bytes_eq word (codes "bep") then Some Bep else None

abbrev pub announce_of : List ℕ → Option Announce
announce_of word =
    if bytes_eq word (codes "silent") then Some announce.Silent
    else if bytes_eq word (codes "all") then Some announce.All
    else if bytes_eq word (codes "nothing") then Some announce.Nothing
    else None

-- a name and a number
abbrev pub numbered_of : List ℕ → ℕ → Option Setting
numbered_of name n =
    if bytes_eq name (codes "pieces") then Some (settings.Pieces n)
    else if bytes_eq name (codes "limit") then Some (settings.Limit n)
    else if bytes_eq name (codes "metadata-id") then option_map settings.MetadataId (id_of n)
    else if bytes_eq name (codes "donthave-id") then option_map settings.DonthaveId (id_of n)
    else if bytes_eq name (codes "window") then option_map settings.Window (window_of n)
    else None

abbrev pub short_setting_of : List ℕ → List ℕ → Option Setting
short_setting_of name value =
    if bytes_eq name (codes "watch") then option_map settings.Watch (hash_of value)
    else if bytes_eq name (codes "fetch") then option_map settings.Fetch (hash_of value)
    else if bytes_eq name (codes "info-hash") then option_map settings.InfoHash (hash_of value)
    else if bytes_eq name (codes "peer-id") then option_map settings.PeerId (hash_of value)
    else if bytes_eq name (codes "reserved") then option_map settings.Reserved (bits_of value)
    else if bytes_eq name (codes "rules") then option_map settings.Rules (rules_of value)
    else if bytes_eq name (codes "announce") then option_map settings.Announce (announce_of value)
    else option_and_then (numbered_of name) (number_in_word value)

-- a name and its value
abbrev pub setting_of : List ℕ → List ℕ → Option Setting
setting_of name value =
    if bytes_eq name (codes "serve") then option_map settings.Serve (bytes_in_word value) else short_setting_of name value

abbrev pub setting_by : List ℕ × List ℕ → Option Setting
setting_by p = setting_of p.0 p.1

abbrev pub setting_in : List ℕ → Option Setting
setting_in text = option_and_then setting_by (cut_of text)

-- ---- steps that say no message, and settings

abbrev pub delivery_of : Side × List ℕ → Option Entry
delivery_of p = option_map (λ n. Do (steps.Deliver p.0 n)) (number_in_word p.1)

-- by the first word and what stands after it
abbrev pub entry_by : List ℕ × List ℕ → Option Entry
entry_by p =
    if bytes_eq p.0 (codes "turn") then option_map (λ s. Do (steps.Turn s)) (side_of p.1)
    else if bytes_eq p.0 (codes "deliver") then option_and_then delivery_of (sided_of p.1)
    else option_and_then (λ s. option_map (Set s) (setting_in p.1)) (side_of p.0)

abbrev pub entry_in : List ℕ → Option Entry
entry_in text = if bytes_eq text (codes "reset") then Some (Do steps.Reset) else option_and_then entry_by (cut_of text)

-- ---- a message that is to be said

-- a context that allows every message that any end's limit does
abbrev pub lenient : Context
lenient = record { fast = true; ext = true; pieces = None; reg = metadata_only None; rules = Free; limit = 1048576 }

-- the words are the line of a script that names just the bytes of this message
pub record IsMessage (words : List ℕ) (m : Message) : Type 0 where
  pub bytes : List ℕ
  pub line : IsLine false words bytes
  pub said : IsSaid lenient Past 0 m
  pub spelled : bytes ≡ spell lenient m

-- what reading the words answers
abbrev pub IsMessageReading : List ℕ → Option Message → Type 0
IsMessageReading words None = (m : Message) → IsMessage words m → ⊥
IsMessageReading words (Some m) = IsMessage words m

-- what reading the bytes answers
abbrev pub IsSpelledBy : List ℕ → Option Message → Type 0
IsSpelledBy bytes None = (m : Message) → IsSaid lenient Past 0 m → bytes ≡ spell lenient m → ⊥
IsSpelledBy bytes (Some m) = IsSaid lenient Past 0 m × (bytes ≡ spell lenient m)

abbrev pub said_by : List ℕ × List ℕ → Option (Side × List ℕ)
said_by p = if bytes_eq p.0 (codes "say") then sided_of p.1 else None

-- the side that says something, and the words
abbrev pub said_in : List ℕ → Option (Side × List ℕ)
said_in text = option_and_then said_by (cut_of text)

-- ---- a line

-- the line says this
abbrev pub Says : List ℕ → Entry → Type 0
Says text (Do (steps.Say s m)) = (words : List ℕ) × (said_in text ≡ Some (s, words)) × IsMessage words m
Says text other = (said_in text ≡ None) × (entry_in text ≡ Some other)

-- what reading a line answers
abbrev pub IsReading : List ℕ → Option Entry → Type 0
IsReading text None = (e : Entry) → Says text e → ⊥
IsReading text (Some e) = Says text e
