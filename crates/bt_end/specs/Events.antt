-- What an item makes of an end, told to its caller.
use Rattle.std.specs.Prelude.{ℕ, nat_lt, Bool, true, false, if◌then◌else◌, List, length, is_some, is_none}
use Rattle.std.specs.Str.{bytes_eq}
use Rattle.sha1.specs.Sha1.{sha1}
use Rattle.bt_bencode.specs.Trees.{Tree}
use Rattle.bt_bencode.specs.Views.{tree_of}
use Rattle.bt_ext.specs.Fields.{size_of}
use Rattle.bt_ext.specs.Metadata.{kind_of, block_count}
use Rattle.bt_ext.specs.declared.ext.Ext.{Ext}
use Rattle.bt_ext.specs.declared.ext.Ext.TheVariants as ext
use Rattle.bt_ext.specs.declared.metadata.Kind.{Kind}
use Rattle.bt_ext.specs.declared.metadata.Kind.TheVariants as kind
use Rattle.bt_wire.specs.declared.item.Item.{Item}
use Rattle.bt_wire.specs.declared.item.Item.TheVariants as items
use Rattle.bt_wire.specs.Messages.{Message}
use Rattle.bt_wire.specs.declared.message.Message.TheVariants as m
use Rattle.bt_metadata.specs.Assemblies.{AssemblyState, piece_error, data_error, with_data, is_whole, joined}
use Rattle.bt_end.specs.Ends.{EndState, Part, Serving, Fetching, peer_id, learnt, assembly_of}
use Rattle.bt_end.specs.declared.event.Event.{Event}
use Rattle.bt_end.specs.declared.event.Event.TheVariants as event

-- a request: the block of this number, where the metadata has one, or a reject
abbrev pub answer_event : Part → ℕ → Event
answer_event (Serving metadata) piece = if nat_lt piece (block_count (length metadata)) then event.Served piece else event.Declined piece
answer_event p piece = event.Declined piece

-- a block, with which the assembly is this: each is held, and their SHA-1 is the info hash, or isn't; or not each is held
abbrev pub concluded_event : AssemblyState → Event → Event
concluded_event a else_event = if is_whole a then (if bytes_eq (sha1 (joined a.slots)) a.info_hash then event.Fetched else event.Mismatched) else else_event

abbrev pub block_event : ℕ → ℕ → List ℕ → Part → Event
block_event piece total bytes (Fetching a) =
    concluded_event (with_data a piece total bytes) (if is_none (data_error a piece total bytes) then event.Block piece else event.Other)
block_event piece total bytes p = event.Other

abbrev pub reject_event : ℕ → Part → Event
reject_event piece (Fetching a) = if is_none (piece_error a piece) then event.Rejected piece else event.Other
reject_event piece p = event.Other

abbrev pub kind_event : EndState → Kind → List ℕ → Event
kind_event e (kind.Request piece) rest = if is_some (peer_id e) then answer_event e.part piece else event.Other
kind_event e (kind.Data piece total) rest = block_event piece total rest e.part
kind_event e (kind.Reject piece) rest = reject_event piece e.part
kind_event e k rest = event.Other

-- the peer's id from then on, the size that is told, and whether an assembly begins
abbrev pub announced_event : EndState → Tree → Event
announced_event e t = event.Announced (peer_id (learnt e t)) (size_of t) (is_some (assembly_of e.handshake.info_hash e.part (size_of t)))

abbrev pub extended_event : EndState → Ext → Event
extended_event e (ext.Handshake dict rest) = announced_event e (tree_of dict)
extended_event e (ext.Metadata dict rest) = kind_event e (kind_of (tree_of dict)) rest
extended_event e x = event.Other

-- a message outside the Extension Protocol (BEP 3): a block of a piece is asked for, or comes
abbrev pub plain_event : Message → Event
plain_event (m.Request index begin size) = event.Requested index begin size
plain_event (m.Piece index begin block) = event.Piece index begin
plain_event other = event.Other

abbrev pub message_event : EndState → Message → Event
message_event e (m.Extended x) = extended_event e x
message_event e other = plain_event other

-- what an item makes of an end
abbrev pub event_of : EndState → Item → Event
event_of e (items.Handshake h) = event.Opened h
event_of e (items.Message msg) = message_event e msg

abbrev pub is_mismatched : Event → Bool
is_mismatched event.Mismatched = true
is_mismatched e = false
