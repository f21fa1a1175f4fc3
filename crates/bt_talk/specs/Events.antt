-- The event that an item is, as remarks take it (BEP 3, "peer messages"; BEP 6; BEP 9).
use Rattle.std.specs.Prelude.{ℕ, ◌-◌, ◌^◌, min, length}
use Rattle.bt_ext.specs.declared.ext.Ext.{Ext}
use Rattle.bt_ext.specs.declared.ext.Ext.TheVariants as ext
use Rattle.bt_ext.specs.declared.metadata.Kind.{Kind}
use Rattle.bt_ext.specs.declared.metadata.Kind.TheVariants as kind
use Rattle.bt_ext.specs.Metadata.{kind_of}
use Rattle.bt_bencode.specs.Views.{tree_of}
use Rattle.bt_wire.specs.declared.item.Item.{Item}
use Rattle.bt_wire.specs.declared.item.Item.TheVariants as items
use Rattle.bt_wire.specs.Messages.{Message as WireMessage}
use Rattle.bt_wire.specs.declared.message.Message.TheVariants as m
use Rattle.bt_remarks.specs.declared.events.Block.{Block}
use Rattle.bt_wire.specs.Handshakes.{sets_fast}
use Rattle.bt_remarks.specs.Said.{Message, Handshake, Choke, Unchoke, AllowedFast, HaveAll, Bitfield, Have, Request, Cancel, Piece, Reject}
use Rattle.bt_remarks.specs.Said.{MetadataRequest, MetadataAnswer, Other}

abbrev pub block_of : ℕ → ℕ → ℕ → Block
block_of index begin length = record { index = index; begin = begin; length = length }

abbrev pub metadata_event : Kind → Message
metadata_event (kind.Request piece) = MetadataRequest piece
metadata_event (kind.Data piece total) = MetadataAnswer piece
metadata_event (kind.Reject piece) = MetadataAnswer piece
metadata_event kind.Other = Other
metadata_event kind.Malformed = Other

abbrev pub extended_event : Ext → Message
extended_event (ext.Metadata dict rest) = metadata_event (kind_of (tree_of dict))
extended_event e = Other

abbrev pub message_event : WireMessage → Message
message_event m.Choke = Choke
message_event m.Unchoke = Unchoke
message_event (m.Have index) = Have index
message_event (m.Bitfield bits) = Bitfield bits
message_event (m.Request index begin length) = Request (block_of index begin length)
message_event (m.Cancel index begin length) = Cancel (block_of index begin length)
message_event (m.Piece index begin block) = Piece (block_of index begin (min (length block) (2 ^ 32 - 1)))
message_event m.HaveAll = HaveAll
message_event (m.Reject index begin length) = Reject (block_of index begin length)
message_event (m.AllowedFast index) = AllowedFast index
message_event (m.Extended e) = extended_event e
message_event msg = Other

abbrev pub event_of : Item → Message
event_of (items.Handshake h) = Handshake (sets_fast h.reserved)
event_of (items.Message msg) = message_event msg
