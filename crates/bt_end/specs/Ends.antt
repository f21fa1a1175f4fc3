-- One end of a connection as values (BEP 3, BEP 6, BEP 9, BEP 10): what it is, and what it does at each item that comes.
use Rattle.std.specs.Prelude.{ℕ, zero, suc, ◌+◌, ◌-◌, ◌^◌, min, not, ◌&&◌, ◌||◌, nat_lt, nat_le, Bool, true, false, if◌then◌else◌, List, [], ◌∷◌, ◌++◌}
use Rattle.std.specs.Prelude.{length, map, count_by, Option, Some, None, is_some, is_none, option_map, unwrap_or, codes}
use Rattle.std.specs.List.{flat_map, list_all}
use Rattle.std.specs.Str.{bytes_eq}
use Rattle.sha1.specs.Sha1.{sha1}
use Rattle.bt_bencode.specs.Trees.{Tree}
use Rattle.bt_bencode.specs.Views.{tree_of}
use Rattle.bt_ext.specs.Ids.{metadata_id}
use Rattle.bt_ext.specs.Tables.{Entries, id_of_name, told_ids, applied}
use Rattle.bt_ext.specs.Fields.{size_of}
use Rattle.bt_ext.specs.Metadata.{kind_of, block_count}
use Rattle.bt_ext.specs.Made.{message_of, handshake_of}
use Rattle.bt_ext.specs.declared.ext.Ext.{Ext}
use Rattle.bt_ext.specs.declared.ext.Ext.TheVariants as ext
use Rattle.bt_ext.specs.declared.metadata.Kind.{Kind}
use Rattle.bt_ext.specs.declared.metadata.Kind.TheVariants as kind
use Rattle.bt_wire.specs.declared.context.Context.{Context}
use Rattle.bt_wire.specs.declared.context.Own.{Own}
use Rattle.bt_wire.specs.declared.context.Order.{Order}
use Rattle.bt_wire.specs.declared.context.Order.TheVariants.{Fresh}
use Rattle.bt_wire.specs.declared.handshake.Handshake.{Handshake}
use Rattle.bt_wire.specs.declared.item.Item.{Item}
use Rattle.bt_wire.specs.declared.item.Item.TheVariants as items
use Rattle.bt_wire.specs.Messages.{Message}
use Rattle.bt_wire.specs.declared.message.Message.TheVariants as m
use Rattle.bt_wire.specs.declared.reserved.Reserved.{Reserved}
use Rattle.bt_wire.specs.Handshakes.{negotiated}
use Rattle.bt_wire.specs.Messages.{order_after, spell}
use Rattle.bt_metadata.specs.Blocks.{block, max_metadata, window}
use Rattle.bt_metadata.specs.Assemblies.{AssemblyState, started, is_asked, is_held, is_settled as is_settled_slot, ask_of, asking, with_slots}
use Rattle.bt_metadata.specs.Assemblies.{with_data, with_reject, is_whole, joined, emptied, disconnected, held_block}
use Rattle.bt_end.specs.declared.config.Announce.{Announce}
use Rattle.bt_end.specs.declared.config.Announce.TheVariants.{Silent, All, Nothing}
use Rattle.bt_end.specs.declared.part.Progress.{Progress}

-- what an end does with metadata
pub data Part : Type 0 where
  -- neither serves nor fetches it
  Watching : Part
  Serving : (metadata : List ℕ) → Part
  -- fetches it; its size isn't known yet, and is at most this
  Awaiting : (most : ℕ) → Part
  Fetching : (assembly : AssemblyState) → Part
  Fetched : (metadata : List ℕ) → Part

-- How it receives, its handshake, what it says of its pieces, and how many blocks it asks for at once; the context in which it
-- receives, once the peer's handshake is handled; the orders in which it receives and sends; the peer's names and ids; its part;
-- and how often, on this connection, the blocks that came were those of other metadata.
pub record EndState : Type 0 where
  pub own : Own
  pub handshake : Handshake
  pub announce : Announce
  pub window : ℕ
  pub context : Option Context
  pub receives : Order
  pub sends : Order
  pub table : Entries
  pub part : Part
  pub mismatches : ℕ

-- what an item makes of an end: the new end, and the messages that it queues, in order
pub record Reaction : Type 0 where
  pub end : EndState
  pub queued : List Message

-- ---- what it knows of the peer

-- the id under which the peer wants metadata messages
abbrev pub peer_id : EndState → Option ℕ
peer_id e = id_of_name (codes "ut_metadata") e.table

-- before the peer's handshake it is taken to know no extension
abbrev pub no_extension : Reserved
no_extension = record { 0 = 0 }

-- what both agreed on
abbrev pub agreed : EndState → Context
agreed e = unwrap_or e.context (negotiated e.own no_extension)

-- The context that it takes the peer to receive in: what both agreed on, its own piece count, rules and limit, and the peer's ids.
abbrev pub belief : EndState → Context
belief e = record {
  fast = (agreed e).fast;
  ext = (agreed e).ext;
  pieces = e.own.pieces;
  reg = told_ids e.table;
  rules = e.own.rules;
  limit = e.own.limit;
}

-- the bytes of messages that it sends
abbrev pub spelled : EndState → List Message → List ℕ
spelled e xs = flat_map (spell (belief e)) xs

-- ---- reactions

abbrev pub quiet : EndState → Reaction
quiet e = record { end = e; queued = [] }

abbrev pub orders_after : Order → List Message → Order
orders_after o [] = o
orders_after o (x ∷ xs) = orders_after (order_after o x) xs

-- the messages are queued
abbrev pub queueing : EndState → List Message → Reaction
queueing e xs = record { end = record e { sends = orders_after e.sends xs }; queued = xs }

abbrev pub with_part : EndState → Part → EndState
with_part e p = record e { part = p }

-- ---- the handshake

abbrev pub served_size : Part → Option ℕ
served_size (Serving metadata) = Some (length metadata)
served_size p = None

abbrev pub announced : Announce → List Message
announced Silent = []
announced All = m.HaveAll ∷ []
announced Nothing = m.HaveNone ∷ []

-- the extended handshake, where both ends know the Extension Protocol, and then what is announced, where both know the Fast
-- Extension
abbrev pub greeting : EndState → Context → List Message
greeting e c =
    (if c.ext then m.Extended (handshake_of e.own.reg (served_size e.part)) ∷ [] else []) ++ (if c.fast then announced e.announce else [])

abbrev pub opened : EndState → Context → EndState
opened e c = record e { context = Some c; receives = Fresh }

abbrev pub greeted : EndState → Context → Reaction
greeted e c = queueing (opened e c) (greeting e c)

-- ---- requests for metadata

-- it has an id, under which answers come, and the peer has one
abbrev pub may_ask : EndState → Bool
may_ask e = is_some (metadata_id e.own.reg) && is_some (peer_id e)

-- the block to ask for next: none while as many are asked as may be at once
abbrev pub wanted : ℕ → Part → Option ℕ
wanted most (Fetching a) = if nat_lt (count_by is_asked a.slots) most then ask_of a.slots else None
wanted most p = None

abbrev pub with_asked : Option ℕ → Part → Part
with_asked o (Fetching a) = Fetching (with_slots a (asking o a.slots))
with_asked o p = p

-- the blocks to ask for one after the other, n at most
abbrev pub all_wanted : ℕ → ℕ → Part → List ℕ
all_wanted zero most p = []
all_wanted (suc n) most p = unwrap_or (option_map (λ k. k ∷ all_wanted n most (with_asked (Some k) p)) (wanted most p)) []

abbrev pub with_all_asked : List ℕ → Part → Part
with_all_asked [] p = p
with_all_asked (k ∷ ks) p = with_all_asked ks (with_asked (Some k) p)

abbrev pub request_for : ℕ → Message
request_for k = m.Extended (message_of (kind.Request k) [])

-- requests for these blocks are queued
abbrev pub requesting : EndState → List ℕ → Reaction
requesting e ks = queueing (with_part e (with_all_asked ks e.part)) (map request_for ks)

-- requests are queued as long as there is a block to ask for
abbrev pub then_asked : EndState → Reaction
then_asked e = if may_ask e then requesting e (all_wanted window e.window e.part) else quiet e

-- ---- extended handshakes

-- the assembly of a fetch that begins with this size: one of metadata, and not above the greatest that is taken
abbrev pub new_assembly : ℕ → List ℕ → ℕ → Option AssemblyState
new_assembly most hash size = if nat_lt 0 size && nat_le size (min most max_metadata) then Some (started hash size) else None

-- the assembly of an end that awaits a size, once there is one
abbrev pub assembly_of : List ℕ → Part → Option ℕ → Option AssemblyState
assembly_of hash (Awaiting most) (Some size) = new_assembly most hash size
assembly_of hash p size = None

abbrev pub begun : Option AssemblyState → Part → Part
begun None p = p
begun (Some a) p = Fetching a

-- an extended handshake is applied to the table, and its size begins the assembly
abbrev pub learnt : EndState → Tree → EndState
learnt e t = record e { table = applied t e.table; part = begun (assembly_of e.handshake.info_hash e.part (size_of t)) e.part }

-- ---- metadata messages

-- the block of this number, where the metadata has one; else a reject
abbrev pub served : List ℕ → ℕ → Ext
served metadata piece =
    if nat_lt piece (block_count (length metadata)) then message_of (kind.Data piece (length metadata)) (block metadata piece) else message_of
    (kind.Reject piece) []

-- the answer to a request
abbrev pub reply : Part → ℕ → Ext
reply (Serving metadata) piece = served metadata piece
reply p piece = message_of (kind.Reject piece) []

abbrev pub replied : EndState → ℕ → Reaction
replied e piece = if is_some (peer_id e) then queueing e (m.Extended (reply e.part piece) ∷ []) else quiet e

-- when each block is held the metadata is there, or, where its SHA-1 is another, all starts over
abbrev pub concluded : AssemblyState → Part
concluded a = if is_whole a then (if bytes_eq (sha1 (joined a.slots)) a.info_hash then Fetched (joined a.slots) else Fetching (emptied a)) else Fetching a

abbrev pub with_block : ℕ → ℕ → List ℕ → Part → Part
with_block piece total bytes (Fetching a) = concluded (with_data a piece total bytes)
with_block piece total bytes p = p

-- each block is held, and the SHA-1 is another than the info hash
abbrev pub is_mismatch : AssemblyState → Bool
is_mismatch a = is_whole a && not (bytes_eq (sha1 (joined a.slots)) a.info_hash)

-- with this block each block is held, and they are those of other metadata
abbrev pub brings_mismatch : ℕ → ℕ → List ℕ → Part → Bool
brings_mismatch piece total bytes (Fetching a) = is_mismatch (with_data a piece total bytes)
brings_mismatch piece total bytes p = false

-- a count with one more, if there is one more; it stays at 2^64 - 1
abbrev pub one_more : Bool → ℕ → ℕ
one_more more n = if more then min (n + 1) (2 ^ 64 - 1) else n

-- a block has come
abbrev pub block_taken : EndState → ℕ → ℕ → List ℕ → EndState
block_taken e piece total bytes =
    record e { part = with_block piece total bytes e.part; mismatches = one_more (brings_mismatch piece total bytes e.part) e.mismatches }

abbrev pub with_refused : ℕ → Part → Part
with_refused piece (Fetching a) = Fetching (with_reject a piece)
with_refused piece p = p

abbrev pub by_kind : EndState → Kind → List ℕ → Reaction
by_kind e (kind.Request piece) rest = replied e piece
by_kind e (kind.Data piece total) rest = then_asked (block_taken e piece total rest)
by_kind e (kind.Reject piece) rest = then_asked (with_part e (with_refused piece e.part))
by_kind e k rest = quiet e

-- ---- items

abbrev pub at_extended : EndState → Ext → Reaction
at_extended e (ext.Handshake dict rest) = then_asked (learnt e (tree_of dict))
at_extended e (ext.Metadata dict rest) = by_kind e (kind_of (tree_of dict)) rest
at_extended e (ext.DontHave index) = quiet e
at_extended e (ext.Raw id payload) = quiet e

abbrev pub at_message : EndState → Message → Reaction
at_message e (m.Extended x) = at_extended e x
at_message e other = quiet e

-- what an item makes of an end
abbrev pub react : EndState → Item → Reaction
react e (items.Handshake h) = greeted e (negotiated e.own h.reserved)
react e (items.Message msg) = at_message (record e { receives = order_after e.receives msg }) msg

-- ---- connections

-- an end before its first connection
abbrev pub unopened : Own → Handshake → Announce → ℕ → Part → EndState
unopened own h announce window part = record {
  own = own;
  handshake = h;
  announce = announce;
  window = window;
  context = None;
  receives = Fresh;
  sends = Fresh;
  table = [];
  part = part;
  mismatches = 0;
}

abbrev pub part_kept : Part → Part
part_kept (Fetching a) = Fetching (disconnected a)
part_kept p = p

-- the end on a new connection: what was fetched stays
abbrev pub renewed : EndState → EndState
renewed e = unopened e.own e.handshake e.announce e.window (part_kept e.part)

-- the metadata that was fetched
abbrev pub metadata_of : Part → Option (List ℕ)
metadata_of (Fetched metadata) = Some metadata
metadata_of p = None

-- ---- how far a fetch has come

-- the size in bytes, how many blocks it has, and how many of them are held; nothing where no size is known, or nothing is fetched
abbrev pub progress_of : Part → Option Progress
progress_of (Fetching a) = Some (record { size = a.size; blocks = block_count a.size; held = count_by is_held a.slots })
progress_of (Fetched metadata) = Some (record { size = length metadata; blocks = block_count (length metadata); held = block_count (length metadata) })
progress_of p = None

-- it fetches metadata that isn't there yet
abbrev pub is_fetching : Part → Bool
is_fetching (Awaiting most) = true
is_fetching (Fetching a) = true
is_fetching p = false

-- the assembly of a fetching end that begins anew with this size, whatever it holds
abbrev pub anew : List ℕ → Part → ℕ → Option AssemblyState
anew hash p size = if is_fetching p then new_assembly max_metadata hash size else None

-- it fetches by this assembly: what it held is dropped, and requests are queued
abbrev pub restarted : EndState → AssemblyState → Reaction
restarted e a = then_asked (with_part e (Fetching a))

-- each block is held, or the peer rejected it
abbrev pub is_settled : Part → Bool
is_settled (Fetching a) = list_all is_settled_slot a.slots
is_settled p = false

-- the peer's handshake was handled, and not both ends know the Extension Protocol
abbrev pub lacks_extension : EndState → Bool
lacks_extension e = is_some e.context && not (agreed e).ext

-- It fetches, and on this connection no block can come any more, whatever the peer sends: the end has no id of its own, under
-- which blocks come; or not both know the Extension Protocol; or each block is held or rejected.
-- (A peer that announced no id for metadata messages can announce one later: BEP 10, "The handshake message".)
abbrev pub is_hopeless : EndState → Bool
is_hopeless e = is_fetching e.part && (is_none (metadata_id e.own.reg) || lacks_extension e || is_settled e.part)

-- the block of this number, where it is held by an end that is fetching
abbrev pub fetched_block : Part → ℕ → Option (List ℕ)
fetched_block (Fetching a) piece = held_block a piece
fetched_block p piece = None
