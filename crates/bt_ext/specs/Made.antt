-- The dictionaries that an end writes, with sorted keys (BEP 9, BEP 10).
use Rattle.std.specs.Prelude.{ℕ, List, [], pos, ◌<◌, ◌^◌, Option, Some, None, codes}
use Rattle.bt_bencode.specs.Trees.{Tree, integer, dictionary, Pairs, no_pairs, pair}
use Rattle.bt_bencode.specs.declared.tree.Value.TheVariants as value
use Rattle.bt_ext.specs.Ids.{metadata_name, donthave_name, metadata_id, donthave_id}
use Rattle.bt_ext.specs.declared.ids.Registered.{Registered}
use Rattle.bt_ext.specs.declared.ext.Ext.{Ext}
use Rattle.bt_ext.specs.declared.ext.Ext.TheVariants as ext
use Rattle.bt_ext.specs.declared.metadata.Kind.{Kind}
use Rattle.bt_ext.specs.declared.metadata.Kind.TheVariants as kind

-- a request, a data message whose total size is an integer of at least 1, or a reject
abbrev pub IsMade : Kind → Type 0
IsMade (kind.Request piece) = piece < 2 ^ 32
IsMade (kind.Data piece total) = (piece < 2 ^ 32) × (0 < total) × (total < 2 ^ 63)
IsMade (kind.Reject piece) = piece < 2 ^ 32
IsMade kind.Other = ⊥
IsMade kind.Malformed = ⊥

abbrev pub typed : ℕ → ℕ → Pairs → Pairs
typed msg_type piece ps = pair (codes "msg_type") (integer (pos msg_type)) (pair (codes "piece") (integer (pos piece)) ps)

abbrev pub message_pairs : Kind → Pairs
message_pairs (kind.Request piece) = typed 0 piece no_pairs
message_pairs (kind.Data piece total) = typed 1 piece (pair (codes "total_size") (integer (pos total)) no_pairs)
message_pairs (kind.Reject piece) = typed 2 piece no_pairs
message_pairs kind.Other = no_pairs
message_pairs kind.Malformed = no_pairs

-- the dictionary of a metadata message of the kind
abbrev pub message_tree : Kind → Tree
message_tree k = dictionary (message_pairs k)

-- the message, with these bytes after the dictionary
abbrev pub message_of : Kind → List ℕ → Ext
message_of k rest = ext.Metadata (value.Dict (message_pairs k)) rest

-- a pair of a name and its id, if it has one, before other pairs
abbrev pub id_pair : List ℕ → Option ℕ → Pairs → Pairs
id_pair name None ps = ps
id_pair name (Some id) ps = pair name (integer (pos id)) ps

-- `m` with the ids of `ut_metadata` and `lt_donthave` that there are
abbrev pub m_pairs : Option ℕ → Option ℕ → Pairs
m_pairs metadata donthave = id_pair donthave_name donthave (id_pair metadata_name metadata no_pairs)

abbrev pub size_pairs : Option ℕ → Pairs
size_pairs None = no_pairs
size_pairs (Some size) = pair (codes "metadata_size") (integer (pos size)) no_pairs

abbrev pub handshake_pairs : Option ℕ → Option ℕ → Option ℕ → Pairs
handshake_pairs metadata donthave size = pair (codes "m") (dictionary (m_pairs metadata donthave)) (size_pairs size)

-- the dictionary of an end's extended handshake: its registered ids, and the size of the metadata that it serves
abbrev pub handshake_tree : Registered → Option ℕ → Tree
handshake_tree reg size = dictionary (handshake_pairs (metadata_id reg) (donthave_id reg) size)

abbrev pub handshake_of : Registered → Option ℕ → Ext
handshake_of reg size = ext.Handshake (value.Dict (handshake_pairs (metadata_id reg) (donthave_id reg) size)) []
