-- An end that has metadata after an item had it before, or fetched it.
use Rattle.std.proofs.Common.{◌≡◌, ℕ, Bool, true, false, List, [], ◌∷◌, length, Option, None, Some, is_some, if◌then◌else◌, refl, ap, subst, ◌∙◌, ◌⊎◌, inl, inr}
use Rattle.sha1.specs.Sha1.{sha1}
use Rattle.bt_bencode.specs.Views.{tree_of}
use Rattle.bt_ext.specs.Fields.{size_of}
use Rattle.bt_ext.specs.Metadata.{kind_of}
use Rattle.bt_ext.specs.declared.ext.Ext.{Ext}
use Rattle.bt_ext.specs.declared.ext.Ext.TheVariants as ext
use Rattle.bt_ext.specs.declared.metadata.Kind.{Kind}
use Rattle.bt_ext.specs.declared.metadata.Kind.TheVariants as kind
use Rattle.bt_wire.specs.declared.item.Item.{Item}
use Rattle.bt_wire.specs.declared.item.Item.TheVariants as items
use Rattle.bt_wire.specs.Messages.{Message}
use Rattle.bt_wire.specs.declared.message.Message.TheVariants as m
use Rattle.bt_wire.specs.Messages.{order_after}
use Rattle.bt_metadata.specs.Blocks.{window}
use Rattle.bt_metadata.specs.Assemblies.{AssemblyState, with_data, data_error, unless_wrong}
use Rattle.bt_metadata.specs.declared.assembly.BlockError.{BlockError}
use Rattle.bt_metadata.proofs.Kept.{data_assembly}
use Rattle.bt_end.specs.Ends.{Part, Watching, Serving, Awaiting, Fetching, Fetched, EndState, peer_id, may_ask, all_wanted, with_asked, with_all_asked}
use Rattle.bt_end.specs.Ends.{with_part, requesting, quiet, queueing, reply, assembly_of, begun, learnt, with_block, block_taken, with_refused, by_kind}
use Rattle.bt_end.specs.Ends.{at_extended, at_message, react}
use Rattle.bt_end.specs.Laws.{FetchedIsFinished}
use Rattle.bt_end.specs.Sturdy.{IsPartOf}
use Rattle.bt_end.proofs.Fetches.{is_fetched, concluded_finished}
use Rattle.bt_end.proofs.Reactions.{react_keeps}

-- ---- what only changes an assembly makes no metadata

asked_fetched : (o : Option ℕ) (p : Part) (d : List ℕ) → with_asked o p ≡ Fetched d → p ≡ Fetched d
unfolding is_fetched
asked_fetched o Watching d e = e
asked_fetched o (Serving x) d e = e
asked_fetched o (Awaiting most) d e = e
asked_fetched o (Fetching a) d e = let b : false ≡ true = ap is_fetched e in absurd cc
asked_fetched o (Fetched x) d e = e

all_asked_fetched : (ks : List ℕ) (p : Part) (d : List ℕ) → with_all_asked ks p ≡ Fetched d → p ≡ Fetched d
all_asked_fetched [] p d e = e
all_asked_fetched (k ∷ ks) p d e = asked_fetched (Some k) p d (all_asked_fetched ks (with_asked (Some k) p) d e)

refused_fetched : (piece : ℕ) (p : Part) (d : List ℕ) → with_refused piece p ≡ Fetched d → p ≡ Fetched d
unfolding is_fetched
refused_fetched piece Watching d e = e
refused_fetched piece (Serving x) d e = e
refused_fetched piece (Awaiting most) d e = e
refused_fetched piece (Fetching a) d e = let b : false ≡ true = ap is_fetched e in absurd cc
refused_fetched piece (Fetched x) d e = e

begun_fetched : (o : Option AssemblyState) (p : Part) (d : List ℕ) → begun o p ≡ Fetched d → p ≡ Fetched d
unfolding is_fetched
begun_fetched None p d e = e
begun_fetched (Some a) p d e = let b : false ≡ true = ap is_fetched e in absurd cc

-- ---- blocks

unless_size : (o : Option BlockError) (a b : AssemblyState) → b.size ≡ a.size → (unless_wrong o b a).size ≡ a.size
unless_size None a b e = e
unless_size (Some x) a b e = refl

-- the part had the metadata, or an assembly of its size
HadOrFetched : Part → List ℕ → Type 0
HadOrFetched p d = ((p ≡ Fetched d) ⊎ ((a : AssemblyState) × (p ≡ Fetching a) × (length d ≡ a.size)))

block_fetched : (h : List ℕ) (piece total : ℕ) (bytes : List ℕ) (p : Part) (d : List ℕ) → IsPartOf h p → with_block piece total bytes p ≡ Fetched d
    → HadOrFetched p d
unfolding HadOrFetched
block_fetched h piece total bytes Watching d i e = inl e
block_fetched h piece total bytes (Serving x) d i e = inl e
block_fetched h piece total bytes (Awaiting most) d i e = inl e
block_fetched h piece total bytes (Fetching a) d i e =
    let f = concluded_finished (with_data a piece total bytes) d (data_assembly a piece total bytes i.assembly) e in
    inr (a, refl, f.size ∙ unless_size (data_error a piece total bytes) a _ refl)
block_fetched h piece total bytes (Fetched x) d i e = inl e

-- ---- reactions

asked_had : (e : EndState) (d : List ℕ) (t : Bool) → (if t then requesting e (all_wanted window e.window e.part) else quiet e).end.part ≡ Fetched d → e.part
    ≡ Fetched d
asked_had e d true h = all_asked_fetched (all_wanted window e.window e.part) e.part d h
asked_had e d false h = h

replied_had : (e : EndState) (d : List ℕ) (piece : ℕ) (t : Bool) → (if t then queueing e (m.Extended (reply e.part piece) ∷ []) else quiet e).end.part
    ≡ Fetched d → e.part ≡ Fetched d
replied_had e d piece true h = h
replied_had e d piece false h = h

kind_had : (e : EndState) (d : List ℕ) (k : Kind) (rest : List ℕ) → IsPartOf e.handshake.info_hash e.part → (by_kind e k rest).end.part ≡ Fetched d
    → HadOrFetched e.part d
unfolding HadOrFetched
kind_had e d (kind.Request piece) rest i h = inl (replied_had e d piece (is_some (peer_id e)) h)
kind_had e d (kind.Data piece total) rest i h =
    let x = block_taken e piece total rest in block_fetched e.handshake.info_hash piece total rest e.part d i (asked_had x d (may_ask x) h)
kind_had e d (kind.Reject piece) rest i h = let x = with_part e (with_refused piece e.part) in
    inl (refused_fetched piece e.part d (asked_had x d (may_ask x) h))
kind_had e d kind.Other rest i h = inl h
kind_had e d kind.Malformed rest i h = inl h

extended_had : (e : EndState) (d : List ℕ) (x : Ext) → IsPartOf e.handshake.info_hash e.part → (at_extended e x).end.part ≡ Fetched d → HadOrFetched e.part d
unfolding HadOrFetched
extended_had e d (ext.Handshake dict rest) i h =
    let x = learnt e (tree_of dict) in inl (begun_fetched (assembly_of e.handshake.info_hash e.part (size_of (tree_of dict))) e.part d
    (asked_had x d (may_ask x) h))
extended_had e d (ext.Metadata dict rest) i h = kind_had e d (kind_of (tree_of dict)) rest i h
extended_had e d (ext.DontHave index) i h = inl h
extended_had e d (ext.Raw id payload) i h = inl h

message_had : (e : EndState) (d : List ℕ) (msg : Message) → IsPartOf e.handshake.info_hash e.part → (at_message e msg).end.part ≡ Fetched d
    → HadOrFetched e.part d
unfolding HadOrFetched
message_had e d (m.Extended x) i h = extended_had e d x i h
message_had e d other i h = inl h

item_had : (e : EndState) (d : List ℕ) (item : Item) → IsPartOf e.handshake.info_hash e.part → (react e item).end.part ≡ Fetched d → HadOrFetched e.part d
unfolding HadOrFetched
item_had e d (items.Handshake x) i h = inl h
item_had e d (items.Message msg) i h = message_had (record e { receives = order_after e.receives msg }) d msg i h

digest_is : (hash : List ℕ) (p : Part) (d : List ℕ) → IsPartOf hash p → p ≡ Fetched d → sha1 d ≡ hash
digest_is hash p d i e = let f : IsPartOf hash (Fetched d) = subst (IsPartOf hash) e i in f.right

pub fetched_is_finished : FetchedIsFinished
unfolding HadOrFetched
fetched_is_finished a item d i e =
    (item_had a.end d item i.part e, digest_is a.end.handshake.info_hash (react a.end item).end.part d (react_keeps a.end item i.part).part e)
