-- What every reaction of an end keeps.
use Rattle.std.proofs.Common.{◌≡◌, ℕ, zero, suc, Bool, true, false, List, [], ◌∷◌, Option, None, Some, is_some, option_map, unwrap_or, count_by}
use Rattle.std.proofs.Common.{if◌then◌else◌, refl, ap, ◌∙◌, nat_lt, nat_le, ◌≤◌, ◌&&◌, arith}
use Rattle.std.proofs.lemmas.Bool.Decides.{nat_tests}
use Rattle.std.proofs.lemmas.Slice.Eq.{bytes_eq-Decides}
use Rattle.std.specs.Prelude.{min, IfSome}
use Rattle.std.proofs.Math.Nat.{min-le_right, le_trans}
use Rattle.std.specs.Str.{bytes_eq}
use Rattle.sha1.specs.Sha1.{sha1}
use Rattle.bt_bencode.specs.Views.{tree_of}
use Rattle.bt_ext.specs.Fields.{size_of}
use Rattle.bt_ext.specs.Metadata.{kind_of}
use Rattle.bt_ext.specs.declared.ext.Ext.{Ext}
use Rattle.bt_ext.specs.declared.ext.Ext.TheVariants as ext
use Rattle.bt_ext.specs.declared.metadata.Kind.{Kind}
use Rattle.bt_ext.specs.declared.metadata.Kind.TheVariants as kind
use Rattle.bt_wire.specs.declared.item.Item.{Item}
use Rattle.bt_wire.specs.declared.item.Item.TheVariants as items
use Rattle.bt_wire.specs.Messages.{Message}
use Rattle.bt_wire.specs.declared.message.Message.TheVariants as m
use Rattle.bt_wire.specs.Messages.{order_after}
use Rattle.bt_metadata.specs.Blocks.{max_metadata, window}
use Rattle.bt_metadata.specs.Assemblies.{AssemblyState, is_asked, ask_of, is_whole, joined, emptied, started, with_data, data_error, piece_error, unless_wrong}
use Rattle.bt_metadata.proofs.Kept.{asked_assembly, data_assembly, reject_assembly, started_assembly, disconnected_assembly}
use Rattle.bt_metadata.specs.declared.assembly.BlockError.{BlockError}
use Rattle.bt_end.specs.Ends.{Part, Watching, Serving, Awaiting, Fetching, Fetched, EndState, peer_id, may_ask, wanted, all_wanted, with_asked}
use Rattle.bt_end.specs.Ends.{with_all_asked, with_part, requesting, then_asked, quiet, queueing, reply, anew, is_fetching, assembly_of, begun, learnt, with_block}
use Rattle.bt_end.specs.Ends.{block_taken, with_refused, by_kind, at_extended, at_message, react, part_kept}
use Rattle.bt_end.specs.Laws.{DoneStays}
use Rattle.bt_end.specs.Sturdy.{IsFetch, IsPartOf}
use Rattle.bt_end.proofs.Fetches.{whole_length}

pub record Keeps (a b : EndState) : Type 0 where
  pub own : b.own ≡ a.own
  pub handshake : b.handshake ≡ a.handshake
  pub part : IsPartOf a.handshake.info_hash b.part

-- ---- parts

asked_within : (most : ℕ) (few : Bool) (o : Option ℕ) (k : ℕ) → (if few then o else None) ≡ Some k → o ≡ Some k
asked_within most true o k e = e
asked_within most false o k e = absurd cc

-- a block that is wanted is asked
asked_part : (h : List ℕ) (most k : ℕ) (p : Part) → IsPartOf h p → wanted most p ≡ Some k → IsPartOf h (with_asked (Some k) p)
asked_part h most k Watching i e = i
asked_part h most k (Serving x) i e = i
asked_part h most k (Awaiting m) i e = i
asked_part h most k (Fetching a) i e =
    let w : ask_of a.slots ≡ Some k = asked_within most (nat_lt (count_by is_asked a.slots) most) (ask_of a.slots) k e in
    record { hash_is = i.hash_is; assembly = asked_assembly a k i.assembly w }
asked_part h most k (Fetched x) i e = i

all_asked_by : (h : List ℕ) (n most : ℕ) (o : Option ℕ) (p : Part) → wanted most p ≡ o → IsPartOf h p →
    ((q : Part) → IsPartOf h q → IsPartOf h (with_all_asked (all_wanted n most q) q))
    → IsPartOf h (with_all_asked (unwrap_or (option_map (λ k. k ∷ all_wanted n most (with_asked (Some k) p)) o) []) p)
all_asked_by h n most None p e i rest = i
all_asked_by h n most (Some k) p e i rest = rest (with_asked (Some k) p) (asked_part h most k p i e)

all_asked_part : (h : List ℕ) (n most : ℕ) (p : Part) → IsPartOf h p → IsPartOf h (with_all_asked (all_wanted n most p) p)
all_asked_part h zero most p i = i
all_asked_part h (suc n) most p i = all_asked_by h n most (wanted most p) p refl i (λ q j. all_asked_part h n most q j)

unless_hash : (o : Option BlockError) (a b : AssemblyState) → b.info_hash ≡ a.info_hash → (unless_wrong o b a).info_hash ≡ a.info_hash
unless_hash None a b e = e
unless_hash (Some x) a b e = refl

-- the metadata is there, or all starts over
right_part : (h : List ℕ) (a : AssemblyState) (t : Bool) → is_whole a ≡ true → bytes_eq (sha1 (joined a.slots)) a.info_hash ≡ t → IsFetch h a →
    IsPartOf h (if t then Fetched (joined a.slots) else Fetching (emptied a))
right_part h a true w e i =
    let l = whole_length a i.assembly w in
    record {
      least = omega (arith, l, i.assembly.least);
      most = omega (arith, l, i.assembly.most);
      right = (bytes_eq-Decides (sha1 (joined a.slots)) a.info_hash).0 e ∙ i.hash_is;
    }
right_part h a false w e i = record { hash_is = i.hash_is; assembly = started_assembly a.info_hash a.size i.assembly.least i.assembly.most }

concluded_part : (h : List ℕ) (a : AssemblyState) (t : Bool) → is_whole a ≡ t → IsFetch h a →
    IsPartOf h (if t then (if bytes_eq (sha1 (joined a.slots)) a.info_hash then Fetched (joined a.slots) else Fetching (emptied a)) else Fetching a)
concluded_part h a true w i = right_part h a (bytes_eq (sha1 (joined a.slots)) a.info_hash) w refl i
concluded_part h a false w i = i

block_part : (h : List ℕ) (piece total : ℕ) (bytes : List ℕ) (p : Part) → IsPartOf h p → IsPartOf h (with_block piece total bytes p)
block_part h piece total bytes Watching i = i
block_part h piece total bytes (Serving x) i = i
block_part h piece total bytes (Awaiting most) i = i
block_part h piece total bytes (Fetching a) i =
    let b = with_data a piece total bytes in
    let e : b.info_hash ≡ a.info_hash = unless_hash (data_error a piece total bytes) a _ refl in
    concluded_part h b (is_whole b) refl (record { hash_is = e ∙ i.hash_is; assembly = data_assembly a piece total bytes i.assembly })
block_part h piece total bytes (Fetched x) i = i

refused_part : (h : List ℕ) (piece : ℕ) (p : Part) → IsPartOf h p → IsPartOf h (with_refused piece p)
refused_part h piece Watching i = i
refused_part h piece (Serving x) i = i
refused_part h piece (Awaiting most) i = i
refused_part h piece (Fetching a) i = record { hash_is = unless_hash (piece_error a piece) a _ refl ∙ i.hash_is; assembly = reject_assembly a piece i.assembly }
refused_part h piece (Fetched x) i = i

started_part : (h : List ℕ) (most size : ℕ) → nat_lt 0 size ≡ true → nat_le size (min most max_metadata) ≡ true → IsPartOf h (Fetching (started h size))
started_part h most size e f =
    let within : size ≤ min most max_metadata = grind (arith, nat_tests) in
    record { hash_is = refl; assembly = started_assembly h size (grind (arith, nat_tests)) (le_trans within (min-le_right most max_metadata)) }

begun_size : (h : List ℕ) (most size : ℕ) (s t : Bool) → nat_lt 0 size ≡ s → nat_le size (min most max_metadata) ≡ t
    → IsPartOf h (begun (if s && t then Some (started h size) else None) (Awaiting most))
begun_size h most size true true e f = started_part h most size e f
begun_size h most size true false e f = tt
begun_size h most size false t e f = tt

begun_part : (h : List ℕ) (p : Part) (size : Option ℕ) → IsPartOf h p → IsPartOf h (begun (assembly_of h p size) p)
begun_part h Watching size i = i
begun_part h (Serving x) size i = i
begun_part h (Awaiting most) None i = i
begun_part h (Awaiting most) (Some size) i = begun_size h most size (nat_lt 0 size) (nat_le size (min most max_metadata)) refl refl
begun_part h (Fetching a) size i = i
begun_part h (Fetched x) size i = i

new_part : (h : List ℕ) (most size : ℕ) (r s t : Bool) → nat_lt 0 size ≡ s → nat_le size (min most max_metadata) ≡ t
    → IfSome (if r then (if s && t then Some (started h size) else None) else None) (λ a. IsPartOf h (Fetching a))
new_part h most size true true true e f = started_part h most size e f
new_part h most size true true false e f = tt
new_part h most size true false t e f = tt
new_part h most size false s t e f = tt

pub anew_part : (h : List ℕ) (p : Part) (size : ℕ) → IfSome (anew h p size) (λ a. IsPartOf h (Fetching a))
anew_part h p size = new_part h max_metadata size (is_fetching p) (nat_lt 0 size) (nat_le size (min max_metadata max_metadata)) refl refl

pub kept_part : (h : List ℕ) (p : Part) → IsPartOf h p → IsPartOf h (part_kept p)
kept_part h Watching i = i
kept_part h (Serving x) i = i
kept_part h (Awaiting most) i = i
kept_part h (Fetching a) i = record { hash_is = i.hash_is; assembly = disconnected_assembly a i.assembly }
kept_part h (Fetched x) i = i

-- ---- reactions

requesting_keeps : (e : EndState) → IsPartOf e.handshake.info_hash e.part → Keeps e (requesting e (all_wanted window e.window e.part)).end
requesting_keeps e i = record { own = refl; handshake = refl; part = all_asked_part e.handshake.info_hash window e.window e.part i }

asked_by : (e : EndState) (t : Bool) → IsPartOf e.handshake.info_hash e.part
    → Keeps e (if t then requesting e (all_wanted window e.window e.part) else quiet e).end
asked_by e true i = requesting_keeps e i
asked_by e false i = record { own = refl; handshake = refl; part = i }

pub asked_keeps : (e : EndState) → IsPartOf e.handshake.info_hash e.part → Keeps e (then_asked e).end
asked_keeps e i = asked_by e (may_ask e) i

replied_by : (e : EndState) (piece : ℕ) (t : Bool) → IsPartOf e.handshake.info_hash e.part
    → Keeps e (if t then queueing e (m.Extended (reply e.part piece) ∷ []) else quiet e).end
replied_by e piece true i = record { own = refl; handshake = refl; part = i }
replied_by e piece false i = record { own = refl; handshake = refl; part = i }

same : (e : EndState) → IsPartOf e.handshake.info_hash e.part → Keeps e e
same e i = record { own = refl; handshake = refl; part = i }

kind_keeps : (e : EndState) (k : Kind) (rest : List ℕ) → IsPartOf e.handshake.info_hash e.part → Keeps e (by_kind e k rest).end
kind_keeps e (kind.Request piece) rest i = replied_by e piece (is_some (peer_id e)) i
kind_keeps e (kind.Data piece total) rest i =
    let k = asked_keeps (block_taken e piece total rest) (block_part e.handshake.info_hash piece total rest e.part i) in
    record { own = k.own; handshake = k.handshake; part = k.part }
kind_keeps e (kind.Reject piece) rest i =
    let k = asked_keeps (with_part e (with_refused piece e.part)) (refused_part e.handshake.info_hash piece e.part i) in
    record { own = k.own; handshake = k.handshake; part = k.part }
kind_keeps e kind.Other rest i = same e i
kind_keeps e kind.Malformed rest i = same e i

extended_keeps : (e : EndState) (x : Ext) → IsPartOf e.handshake.info_hash e.part → Keeps e (at_extended e x).end
extended_keeps e (ext.Handshake dict rest) i =
    let k = asked_keeps (learnt e (tree_of dict)) (begun_part e.handshake.info_hash e.part (size_of (tree_of dict)) i) in
    record { own = k.own; handshake = k.handshake; part = k.part }
extended_keeps e (ext.Metadata dict rest) i = kind_keeps e (kind_of (tree_of dict)) rest i
extended_keeps e (ext.DontHave index) i = same e i
extended_keeps e (ext.Raw id payload) i = same e i

message_keeps : (e : EndState) (msg : Message) → IsPartOf e.handshake.info_hash e.part → Keeps e (at_message e msg).end
message_keeps e (m.Extended x) i = extended_keeps e x i
message_keeps e other i = same e i

pub react_keeps : (e : EndState) (item : Item) → IsPartOf e.handshake.info_hash e.part → Keeps e (react e item).end
react_keeps e (items.Handshake h) i = record { own = refl; handshake = refl; part = i }
react_keeps e (items.Message msg) i =
    let k = message_keeps (record e { receives = order_after e.receives msg }) msg i in
    record { own = k.own; handshake = k.handshake; part = k.part }

-- ---- an end that is done stays so

IsDone : EndState → List ℕ → Type 0
IsDone e d = e.part ≡ Fetched d

done_all_asked : (ks : List ℕ) (p : Part) (d : List ℕ) → p ≡ Fetched d → with_all_asked ks p ≡ Fetched d
done_all_asked [] p d h = h
done_all_asked (k ∷ ks) p d h = done_all_asked ks (with_asked (Some k) p) d (ap (with_asked (Some k)) h)

done_requesting : (e : EndState) (d ks : List ℕ) → IsDone e d → IsDone (requesting e ks).end d
unfolding IsDone
done_requesting e d ks h = done_all_asked ks e.part d h

done_asked_by : (e : EndState) (d : List ℕ) (t : Bool) → IsDone e d → IsDone (if t then requesting e (all_wanted window e.window e.part) else quiet e).end d
unfolding IsDone
done_asked_by e d true h = done_requesting e d (all_wanted window e.window e.part) h
done_asked_by e d false h = h

done_replied : (e : EndState) (d : List ℕ) (piece : ℕ) (t : Bool) → IsDone e d
    → IsDone (if t then queueing e (m.Extended (reply e.part piece) ∷ []) else quiet e).end d
unfolding IsDone
done_replied e d piece true h = h
done_replied e d piece false h = h

done_kind : (e : EndState) (d : List ℕ) (k : Kind) (rest : List ℕ) → IsDone e d → IsDone (by_kind e k rest).end d
unfolding IsDone
done_kind e d (kind.Request piece) rest h = done_replied e d piece (is_some (peer_id e)) h
done_kind e d (kind.Data piece total) rest h =
    let x = block_taken e piece total rest in done_asked_by x d (may_ask x) (ap (with_block piece total rest) h)
done_kind e d (kind.Reject piece) rest h = let x = with_part e (with_refused piece e.part) in done_asked_by x d (may_ask x) (ap (with_refused piece) h)
done_kind e d kind.Other rest h = h
done_kind e d kind.Malformed rest h = h

done_extended : (e : EndState) (d : List ℕ) (x : Ext) → IsDone e d → IsDone (at_extended e x).end d
unfolding IsDone
done_extended e d (ext.Handshake dict rest) h =
    let x = learnt e (tree_of dict) in
    let hash = e.handshake.info_hash in
    done_asked_by x d (may_ask x) (ap (λ (p : Part). begun (assembly_of hash p (size_of (tree_of dict))) p) h)
done_extended e d (ext.Metadata dict rest) h = done_kind e d (kind_of (tree_of dict)) rest h
done_extended e d (ext.DontHave index) h = h
done_extended e d (ext.Raw id payload) h = h

done_message : (e : EndState) (d : List ℕ) (msg : Message) → IsDone e d → IsDone (at_message e msg).end d
unfolding IsDone
done_message e d (m.Extended x) h = done_extended e d x h
done_message e d other h = h

done_item : (e : EndState) (d : List ℕ) (item : Item) → IsDone e d → IsDone (react e item).end d
unfolding IsDone
done_item e d (items.Handshake x) h = h
done_item e d (items.Message msg) h = done_message (record e { receives = order_after e.receives msg }) d msg h

pub done_stays : DoneStays
unfolding IsDone
done_stays e d h = ((λ item. done_item e d item h), ap part_kept h)
