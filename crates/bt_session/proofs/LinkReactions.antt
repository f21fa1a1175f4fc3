-- What an end makes of an honest item: what it queues is legal where the other end reads it, and what it knows of the other
-- stays right.
use Rattle.std.proofs.Common.{◌≡◌, ℕ, zero, suc, ◌^◌, ◌<◌, ◌≤◌, ◌⊎◌, inl, inr, Bool, true, false, ◌&&◌, eqb, if◌then◌else◌, List, [], ◌∷◌, ◌++◌, length}
use Rattle.std.proofs.Common.{map, count_by, Option, Some, None, refl, sym, ap, subst, ◌∙◌, arith}
use Rattle.std.proofs.lemmas.Bool.{ltb-true}
use Rattle.std.proofs.lemmas.List.{length-map}
use Rattle.std.specs.Option.{ForSome}
use Rattle.std.specs.Prelude.{unwrap_or, option_and_then, option_map, nat_lt, nat_le, min, is_some, ◌||◌}
use Rattle.std.specs.Str.{bytes_eq}
use Rattle.sha1.specs.Sha1.{sha1}
use Rattle.bt_bencode.specs.Trees.{Tree}
use Rattle.bt_ext.specs.Fields.{size_of}
use Rattle.bt_ext.specs.Ids.{HaveBytes, metadata_name, donthave_name, metadata_id, donthave_id, extension_id}
use Rattle.bt_ext.specs.Made.{IsMade, message_of, handshake_of, handshake_tree}
use Rattle.bt_ext.specs.Metadata.{block_count, is_block_ok}
use Rattle.bt_ext.specs.Tables.{Entries, IsTable, id_of_name, entered, entered_all, told, told_of, id_after}
use Rattle.bt_ext.specs.declared.ext.Ext.{Ext}
use Rattle.bt_ext.specs.declared.ids.Registered.{Registered}
use Rattle.bt_ext.specs.declared.metadata.Kind.{Kind}
use Rattle.bt_ext.specs.declared.metadata.Kind.TheVariants as kind
use Rattle.bt_ext.proofs.MadeKinds.{kind_made}
use Rattle.bt_ext.proofs.MadeRight.{handshake-tells}
use Rattle.bt_ext.proofs.ByName.{entered-name, table-applied}
use Rattle.bt_ext.proofs.Entries.{table-entered}
use Rattle.bt_ext.proofs.PeerIds.{metadata-told}
use Rattle.bt_wire.specs.declared.context.Context.{Context}
use Rattle.bt_wire.specs.declared.context.Order.{Order}
use Rattle.bt_wire.specs.declared.context.Order.TheVariants.{Fresh}
use Rattle.bt_wire.specs.declared.item.Item.TheVariants as items
use Rattle.bt_wire.specs.Messages.{Message}
use Rattle.bt_wire.specs.declared.message.Message.TheVariants as m
use Rattle.bt_wire.specs.declared.context.Own.{Own}
use Rattle.bt_wire.specs.Faults.{is_strict}
use Rattle.bt_wire.specs.Legal.{IsSaid}
use Rattle.bt_wire.specs.Messages.{spell, order_after}
use Rattle.bt_wire.specs.Handshakes.{negotiated, sets_extension, sets_fast}
use Rattle.bt_wire.proofs.WindowLaws.{never}
use Rattle.bt_end.specs.declared.config.Announce.{Announce}
use Rattle.bt_end.specs.declared.config.Announce.TheVariants as announce
use Rattle.bt_metadata.specs.Assemblies.{AssemblyState, started, is_asked, ask_of, with_data, is_whole, joined, emptied}
use Rattle.bt_metadata.specs.Blocks.{block, window, max_metadata}
use Rattle.bt_end.specs.Ends.{EndState, Reaction, Part, Watching, Serving, Awaiting, Fetching, Fetched, served_size, peer_id, belief, no_extension, quiet}
use Rattle.bt_end.specs.Ends.{queueing, orders_after, may_ask, wanted, with_asked, all_wanted, with_all_asked, request_for, requesting, then_asked}
use Rattle.bt_end.specs.Ends.{assembly_of, begun, learnt, reply, with_block, block_taken, with_refused, with_part, by_kind, at_extended, announced}
use Rattle.bt_end.specs.Ends.{greeting as greeting_of, opened, greeted}
use Rattle.bt_session.proofs.AssemblyLaws.{asks_within, asked_fetch, data_fetch, reject_fetch, started_fetch}
use Rattle.bt_session.specs.LinkLaws.{source_of, IsMetadata, IsConfigured}
use Rattle.bt_session.proofs.LinkInvariant.{IsStill, reads, IsPartFor, IsFetch, Knows, IsOwn, greeting, request, data_of, reject, taken_back}
use Rattle.bt_session.proofs.LinkInvariant.{IsHonestMessage, AreHonest, IsFor, AreFor}
use Rattle.bt_metadata.proofs.LawProofs.{whole_is_served}
use Rattle.bt_session.proofs.OwnMessages.{MayTell, message_for, greeting_for, block_right}

-- what the end a, in the context c and with this sending order before, has done
pub record Reacts (a b : EndState) (o : Order) (c : Context) (r : Reaction) : Type 0 where
  pub still : IsStill a r.end
  pub context : r.end.context ≡ Some c
  pub sends : r.end.sends ≡ orders_after o r.queued
  pub queued : AreFor (belief r.end) (reads b a) o r.queued
  pub knows : Knows b r.end
  pub honest : AreHonest a (map items.Message r.queued)
  pub few : length r.queued ≤ 8

-- an open end of the link that was made as a
pub record IsOpen (a b : EndState) (c : Context) (e : EndState) : Type 0 where
  pub still : IsStill a e
  pub context : e.context ≡ Some c
  pub knows : Knows b e
  pub ext : c.ext ≡ (reads b a).ext
  pub least : 32768 ≤ e.own.limit

pub quiet_reacts : (a b e : EndState) (c : Context) → IsOpen a b c e → Reacts a b e.sends c (quiet e)
quiet_reacts a b e c h = record { still = h.still; context = h.context; sends = refl; queued = tt; knows = h.knows; honest = tt; few = omega arith }

queueing_reacts : (a b e : EndState) (c : Context) (xs : List Message) → IsOpen a b c e → AreFor (belief e) (reads b a) e.sends xs
    → AreHonest a (map items.Message xs) → length xs ≤ 8 → Reacts a b e.sends c (queueing e xs)
queueing_reacts a b e c xs h all own few = record {
  still = record { own = h.still.own; handshake = h.still.handshake; serves = h.still.serves };
  context = h.context;
  sends = refl;
  queued = all;
  knows = record { table = h.knows.table; id = h.knows.id; donthave = h.knows.donthave; part = h.knows.part };
  honest = own;
  few = few;
}

-- ---- metadata messages

-- an id is none that 0 is
above_zero : (o : Option ℕ) (n : ℕ) → option_and_then extension_id o ≡ Some n → option_and_then extension_id (Some n) ≡ Some n
above_zero None n e = absurd cc
above_zero (Some k) n e = zero_test k n (eqb k 0) refl e
  where
    zero_test : (k n : ℕ) (z : Bool) → eqb k 0 ≡ z → (if z then None else Some k) ≡ Some n → (if eqb n 0 then None else Some n) ≡ Some n
    zero_test k n true t e = absurd cc
    zero_test k n false t e = let same : k ≡ n = cc in rw (sym (ap (λ (x : ℕ). eqb x 0) same) ∙ t) refl

-- the id that an end knows is the other's
known_id : (b e : EndState) (n : ℕ) → Knows b e → peer_id e ≡ Some n → metadata_id b.own.reg ≡ Some n
known_id b e n k h =
    elim k.id [
      | inl none ↦ absurd cc
      | inr same ↦ sym same ∙ h
    ]

believed_id : (b e : EndState) (n : ℕ) → Knows b e → peer_id e ≡ Some n → metadata_id (belief e).reg ≡ Some n
believed_id b e n k h = metadata-told e.table ∙ ap (option_and_then extension_id) h ∙ above_zero b.own.reg.metadata n (known_id b e n k h)

-- an open end may tell the other under the id that it knows
may_tell : {a b e : EndState} {c : Context} {peer : ℕ} → IsOpen a b c e → IsConfigured b → (reads b a).ext ≡ true → peer_id e ≡ Some peer
    → MayTell (belief e) (reads b a) peer
may_tell {b} {e} {peer} h end agreed is =
    let reader : metadata_id b.own.reg ≡ Some peer = known_id b e peer h.knows is in
    record {
      own = ap (λ (o : Option Context). (unwrap_or o (negotiated e.own no_extension)).ext) h.context ∙ h.ext ∙ agreed;
      room = h.least;
      agreed = agreed;
      least = end.least;
      sender = believed_id b e peer h.knows is;
      reader = reader;
      byte = end.ids.metadata peer reader;
    }

one_queued : {a b e : EndState} {c : Context} (k : Kind) (rest : List ℕ) (peer : ℕ) → IsOpen a b c e → IsConfigured b → (reads b a).ext ≡ true → peer_id e
    ≡ Some peer → IsMade k → is_block_ok k (length rest) ≡ true → length rest ≤ 16384
    → IsHonestMessage a (m.Extended (message_of k rest)) → Reacts a b e.sends c (queueing e (m.Extended (message_of k rest) ∷ []))
one_queued {a} {b} {e} {c} k rest peer h end agreed is made ok size own =
    queueing_reacts a b e c (m.Extended (message_of k rest) ∷ []) h (message_for (may_tell h end agreed is) e.sends k rest made ok size, tt) (own, tt)
    (omega arith)

-- ---- asking

with_part_open : (a b e : EndState) (c : Context) (p : Part) → IsOpen a b c e → source_of p ≡ source_of a.part → IsPartFor (source_of b.part) p
    → IsOpen a b c (with_part e p)
with_part_open a b e c p h same for = record {
  still = record { own = h.still.own; handshake = h.still.handshake; serves = same };
  context = h.context;
  knows = record { table = h.knows.table; id = h.knows.id; donthave = h.knows.donthave; part = for };
  ext = h.ext;
  least = h.least;
}

counted_open : (a b e : EndState) (c : Context) (n : ℕ) → IsOpen a b c e → IsOpen a b c (record e { mismatches = n })
counted_open a b e c n h = record {
  still = record { own = h.still.own; handshake = h.still.handshake; serves = h.still.serves };
  context = h.context;
  knows = record { table = h.knows.table; id = h.knows.id; donthave = h.knows.donthave; part = h.knows.part };
  ext = h.ext;
  least = h.least;
}

-- blocks that there are
abbrev AreSmall : List ℕ → Type 0
AreSmall [] = Unit {0}
AreSmall (k ∷ ks) = (k < 2 ^ 32) × AreSmall ks

-- blocks that a part asks for, n at most
record Asks (b : EndState) (n : ℕ) (p : Part) (ks : List ℕ) : Type 0 where
  pub small : AreSmall ks
  pub for : IsPartFor (source_of b.part) (with_all_asked ks p)
  pub serves : source_of (with_all_asked ks p) ≡ source_of p
  pub few : length ks ≤ n

asks_yet : (few : Bool) (o : Option ℕ) (k : ℕ) → (if few then o else None) ≡ Some k → o ≡ Some k
asks_yet true o k e = e
asks_yet false o k e = absurd cc

-- one more block
one_asked : (b : EndState) (most k : ℕ) (p : Part) → IsConfigured b → IsPartFor (source_of b.part) p → wanted most p ≡ Some k → (k < 2 ^ 32)
    × IsPartFor (source_of b.part) (with_asked (Some k) p)
one_asked b most k (Fetching s) end for asks =
    let metadata = for.0 in
    let sized : IsMetadata metadata = end.serves metadata for.1 in
    let next : ask_of s.slots ≡ Some k = asks_yet (nat_lt (count_by is_asked s.slots) most) (ask_of s.slots) k asks in
    let within = asks_within metadata s k for.2 next in
    (omega (arith, sized.most, within.0), (metadata, for.1, asked_fetch metadata s k for.2 next))
one_asked b most k Watching end for asks = absurd cc
one_asked b most k (Serving metadata) end for asks = absurd cc
one_asked b most k (Awaiting m) end for asks = absurd cc
one_asked b most k (Fetched metadata) end for asks = absurd cc

asked_served : (k : ℕ) (p : Part) → source_of (with_asked (Some k) p) ≡ source_of p
asked_served k (Fetching s) = refl
asked_served k Watching = refl
asked_served k (Serving metadata) = refl
asked_served k (Awaiting m) = refl
asked_served k (Fetched metadata) = refl

more_asked : (b : EndState) (n most : ℕ) (p : Part) → IsConfigured b → IsPartFor (source_of b.part) p
    → ((k : ℕ) → IsPartFor (source_of b.part) (with_asked (Some k) p) → Asks b n (with_asked (Some k) p) (all_wanted n most (with_asked (Some k) p)))
    → (o : Option ℕ) → wanted most p ≡ o → Asks b (suc n) p (unwrap_or (option_map (λ k. k ∷ all_wanted n most (with_asked (Some k) p)) o) [])
more_asked b n most p end for more None is = record { small = tt; for = for; serves = refl; few = omega arith }
more_asked b n most p end for more (Some k) is =
    let one = one_asked b most k p end for is in
    let r : Asks b n (with_asked (Some k) p) (all_wanted n most (with_asked (Some k) p)) = more k one.1 in
    record { small = (one.0, r.small); for = r.for; serves = r.serves ∙ asked_served k p; few = omega (arith, r.few) }

all_asked : (b : EndState) (n most : ℕ) (p : Part) → IsConfigured b → IsPartFor (source_of b.part) p → Asks b n p (all_wanted n most p)
all_asked b zero most p end for = record { small = tt; for = for; serves = refl; few = omega arith }
all_asked b (suc n) most p end for = more_asked b n most p end for (λ k next. all_asked b n most (with_asked (Some k) p) end next) (wanted most p) refl

requests_for : {c d : Context} {id : ℕ} → MayTell c d id → (o : Order) (ks : List ℕ) → AreSmall ks → AreFor c d o (map request_for ks)
requests_for may o [] h = tt
requests_for may o (k ∷ ks) h = (
  message_for may o (kind.Request k) [] h.0 refl (omega arith),
  requests_for may (order_after o (request_for k)) ks h.1,
)

requests_own : (a : EndState) (ks : List ℕ) → AreSmall ks → AreHonest a (map items.Message (map request_for ks))
requests_own a [] h = tt
requests_own a (k ∷ ks) h = (request k h.0 refl, requests_own a ks h.1)

requests_react : (a b e : EndState) (c : Context) → IsOpen a b c e → IsConfigured b → (reads b a).ext ≡ true → (peer : ℕ) → peer_id e ≡ Some peer
    → (ks : List ℕ) → Asks b 8 e.part ks → Reacts a b e.sends c (requesting e ks)
requests_react a b e c h end agreed peer is ks asks =
    let p : Part = with_all_asked ks e.part in
    queueing_reacts a b (with_part e p) c (map request_for ks) (with_part_open a b e c p h (asks.serves ∙ h.still.serves) asks.for)
    (requests_for (may_tell h end agreed is) e.sends ks asks.small)
    (requests_own a ks asks.small) (omega (arith, length-map ks request_for, asks.few))

some_there : (x : Bool) (o : Option ℕ) → (x && is_some o) ≡ true → (n : ℕ) × (o ≡ Some n)
some_there x (Some n) e = (n, refl)
some_there true None e = absurd cc
some_there false None e = absurd cc

asked_by : (a b e : EndState) (c : Context) → IsOpen a b c e → IsConfigured b → (reads b a).ext ≡ true → (may : Bool) → may_ask e ≡ may
    → Reacts a b e.sends c (if may then requesting e (all_wanted window e.window e.part) else quiet e)
asked_by a b e c h end agreed false may = quiet_reacts a b e c h
asked_by a b e c h end agreed true may =
    let peer = some_there (is_some (metadata_id e.own.reg)) (peer_id e) may in
    requests_react a b e c h end agreed peer.0 peer.1 (all_wanted window e.window e.part) (all_asked b window e.window e.part end h.knows.part)

asked_reacts : (a b e : EndState) (c : Context) → IsOpen a b c e → IsConfigured b → (reads b a).ext ≡ true → Reacts a b e.sends c (then_asked e)
asked_reacts a b e c h end agreed = asked_by a b e c h end agreed (may_ask e) refl

-- ---- an extended handshake

-- entering an id leaves a name with what it had, with none or with this one
after_by : (name : List ℕ) (n : ℕ) (es : Entries) → (id_after name n es ≡ None) ⊎ ((id_after name n es ≡ Some n) ⊎ (id_after name n es ≡ id_of_name name es))
after_by name n es =
    by_long (nat_lt 255 (length name)) (eqb n 0) (is_some (id_of_name name es) || nat_lt (length es) 256)
  where
    by_long : (long nothing room : Bool) → ((if long then id_of_name name es else (if nothing then None else (if room then Some n else None))) ≡ None)
        ⊎ (((if long then id_of_name name es else (if nothing then None else (if room then Some n else None))) ≡ Some n)
        ⊎ ((if long then id_of_name name es else (if nothing then None else (if room then Some n else None))) ≡ id_of_name name es))
    by_long true nothing room = inr (inr refl)
    by_long false true room = inl refl
    by_long false false true = inr (inl refl)
    by_long false false false = inl refl

-- a name has no id, or this one
abbrev HasNoneOr : List ℕ → Option ℕ → Entries → Type 0
HasNoneOr name id es = (id_of_name name es ≡ None) ⊎ (id_of_name name es ≡ id)

told_id : (name : List ℕ) (id : Option ℕ) (es : Entries) → bytes_eq name name ≡ true → IsTable es → HasNoneOr name id es
    → HasNoneOr name id (entered_all (told name id) es)
told_id name None es itself table h = h
told_id name (Some n) es itself table h =
    let e : id_of_name name (entered name n es) ≡ id_after name n es = entered-name name name n es table ∙ rw itself refl in
    elim (after_by name n es) [
      | inl none ↦ inl (e ∙ none)
      | inr (inl this) ↦ inr (e ∙ this)
      | inr (inr kept) ↦ by_old (e ∙ kept) h
    ]
  where
    by_old : id_of_name name (entered name n es) ≡ id_of_name name es → HasNoneOr name (Some n) es → HasNoneOr name (Some n) (entered name n es)
    by_old e (inl h) = inl (e ∙ h)
    by_old e (inr h) = inr (e ∙ h)

-- what another name has stays
told_other : (name other : List ℕ) (o id : Option ℕ) (es : Entries) → bytes_eq name other ≡ false → IsTable es → HasNoneOr other id es
    → HasNoneOr other id (entered_all (told name o) es)
told_other name other None id es apart table h = h
told_other name other (Some n) id es apart table h =
    let e : id_of_name other (entered name n es) ≡ id_of_name other es = entered-name name other n es table ∙ rw apart refl in
    by_old e h
  where
    by_old : id_of_name other (entered name n es) ≡ id_of_name other es → HasNoneOr other id es → HasNoneOr other id (entered name n es)
    by_old e (inl h) = inl (e ∙ h)
    by_old e (inr h) = inr (e ∙ h)

told_table : (name : List ℕ) (o : Option ℕ) (es : Entries) → IsTable es → IsTable (entered_all (told name o) es)
told_table name None es table = table
told_table name (Some n) es table = table-entered name n es table

both_entered : (donthave metadata : Option ℕ) (es : Entries) → entered_all (told donthave_name donthave ++ told metadata_name metadata) es
    ≡ entered_all (told metadata_name metadata) (entered_all (told donthave_name donthave) es)
both_entered None metadata es = refl
both_entered (Some n) metadata es = refl

-- after both were told
record AreTold (reg : Registered) (es : Entries) : Type 0 where
  id : HasNoneOr metadata_name (metadata_id reg) es
  donthave : HasNoneOr donthave_name (donthave_id reg) es

both_told : (reg : Registered) (es : Entries) → IsTable es → AreTold reg es
    → AreTold reg (entered_all (told donthave_name (donthave_id reg) ++ told metadata_name (metadata_id reg)) es)
both_told reg es table h =
    let first : Entries = entered_all (told donthave_name (donthave_id reg)) es in
    let there : IsTable first = told_table donthave_name (donthave_id reg) es table in
    subst (λ (x : Entries). AreTold reg x) (sym (both_entered (donthave_id reg) (metadata_id reg) es)) (record {
      id = told_id metadata_name (metadata_id reg) first refl there (told_other donthave_name metadata_name (donthave_id reg) (metadata_id reg) es refl
          table h.id);
      donthave = told_other metadata_name donthave_name (metadata_id reg) (donthave_id reg) first refl there
          (told_id donthave_name (donthave_id reg) es refl table h.donthave);
    })

-- a size that is told is that of the metadata that is served
started_for : (hash metadata : List ℕ) (n : ℕ) (source : Option (List ℕ)) → IsMetadata metadata → n ≡ length metadata → source ≡ Some metadata
    → (m : ℕ) (room : Bool) → IsPartFor source (begun (if room then Some (started hash n) else None) (Awaiting m))
started_for hash metadata n source sized e is m true = (metadata, is, started_fetch metadata hash n sized e)
started_for hash metadata n source sized e is m false = tt

size_served : (p : Part) (n : ℕ) → served_size p ≡ Some n → (metadata : List ℕ) × (source_of p ≡ Some metadata) × (n ≡ length metadata)
size_served (Serving metadata) n e = (metadata, refl, cc)
size_served Watching n e = absurd cc
size_served (Awaiting m) n e = absurd cc
size_served (Fetching s) n e = absurd cc
size_served (Fetched metadata) n e = absurd cc

begun_part : (hash : List ℕ) (b : EndState) (p : Part) → IsConfigured b → IsPartFor (source_of b.part) p → (size : Option ℕ) → size ≡ served_size b.part
    → IsPartFor (source_of b.part) (begun (assembly_of hash p size) p)
begun_part hash b Watching end for size e = tt
begun_part hash b (Serving metadata) end for size e = tt
begun_part hash b (Fetching s) end for size e = for
begun_part hash b (Fetched metadata) end for size e = for
begun_part hash b (Awaiting m) end for None e = tt
begun_part hash b (Awaiting m) end for (Some n) e =
    let h = size_served b.part n (sym e) in
    started_for hash h.0 n (source_of b.part) (end.serves h.0 h.1) h.2 h.1 m (nat_lt 0 n && nat_le n (min m max_metadata))

begun_served : (hash : List ℕ) (p : Part) (size : Option ℕ) → source_of (begun (assembly_of hash p size) p) ≡ source_of p
begun_served hash Watching size = refl
begun_served hash (Serving metadata) size = refl
begun_served hash (Fetching s) size = refl
begun_served hash (Fetched metadata) size = refl
begun_served hash (Awaiting m) None = refl
begun_served hash (Awaiting m) (Some n) = by_room (nat_lt 0 n && nat_le n (min m max_metadata))
  where
    by_room : (room : Bool) → source_of (begun (if room then Some (started hash n) else None) (Awaiting m)) ≡ None
    by_room true = refl
    by_room false = refl

greeting_reacts : (a b e : EndState) (c : Context) → IsOpen a b c e → IsConfigured b → (reads b a).ext ≡ true
    → Reacts a b e.sends c (then_asked (learnt e (handshake_tree b.own.reg (served_size b.part))))
greeting_reacts a b e c h end agreed =
    let reg : Registered = b.own.reg in
    let size = served_size b.part in
    let t : Tree = handshake_tree reg size in
    let tells = handshake-tells reg size end.ids in
    let both : AreTold reg (entered_all (told_of t) e.table) =
    subst (λ (told : Entries). AreTold reg (entered_all told e.table)) (sym tells.0)
    (both_told reg e.table h.knows.table (record { id = h.knows.id; donthave = h.knows.donthave })) in
    asked_reacts a b (learnt e t) c (record {
      still = record { own = h.still.own; handshake = h.still.handshake; serves = begun_served e.handshake.info_hash e.part (size_of t) ∙ h.still.serves };
      context = h.context;
      knows = record {
        table = table-applied t e.table h.knows.table;
        id = both.id;
        donthave = both.donthave;
        part = begun_part e.handshake.info_hash b e.part end h.knows.part (size_of t) tells.1;
      };
      ext = h.ext;
      least = h.least;
    }) end agreed

-- ---- data, rejects and requests

concluded_part : (metadata : List ℕ) (source : Option (List ℕ)) (s : AssemblyState) → source ≡ Some metadata → IsMetadata metadata → IsFetch metadata s
    → (whole : Bool) → is_whole s ≡ whole → (right : Bool)
    → IsPartFor source (if whole then (if right then Fetched (joined s.slots) else Fetching (emptied s)) else Fetching s)
concluded_part metadata source s is sized f true all true = is ∙ ap Some (sym (whole_is_served metadata s f.is f.size f.holds all))
concluded_part metadata source s is sized f true all false = (metadata, is, started_fetch metadata s.info_hash s.size sized f.size)
concluded_part metadata source s is sized f false all right = (metadata, is, f)

concluded_served : (s : AssemblyState) (whole right : Bool) → source_of (if whole then (if right then Fetched (joined s.slots) else Fetching (emptied s))
    else Fetching s) ≡ None
concluded_served s true true = refl
concluded_served s true false = refl
concluded_served s false right = refl

data_part : (b : EndState) (p : Part) (metadata : List ℕ) (k : ℕ) → IsConfigured b → source_of b.part ≡ Some metadata → k < block_count (length metadata)
    → IsPartFor (source_of b.part) p
    → IsPartFor (source_of b.part) (with_block k (length metadata) (block metadata k) p)
data_part b Watching metadata k end is lt for = tt
data_part b (Serving own) metadata k end is lt for = tt
data_part b (Awaiting m) metadata k end is lt for = tt
data_part b (Fetched all) metadata k end is lt for = for
data_part b (Fetching s) metadata k end is lt for =
    let same : for.0 ≡ metadata = some_same for.0 metadata (sym for.1 ∙ is) in
    let f : IsFetch metadata s = subst (λ (m : List ℕ). IsFetch m s) same for.2 in
    let n : AssemblyState = with_data s k (length metadata) (block metadata k) in
    concluded_part metadata (source_of b.part) n is (end.serves metadata is) (data_fetch metadata s k f lt) (is_whole n) refl
    (bytes_eq (sha1 (joined n.slots)) n.info_hash)
  where
    some_same : (x y : List ℕ) → Some x ≡ Some y → x ≡ y
    some_same x y e = cc

data_served : (p : Part) (k total : ℕ) (bytes : List ℕ) → source_of (with_block k total bytes p) ≡ source_of p
data_served Watching k total bytes = refl
data_served (Serving own) k total bytes = refl
data_served (Awaiting m) k total bytes = refl
data_served (Fetched all) k total bytes = refl
data_served (Fetching s) k total bytes =
    let n : AssemblyState = with_data s k total bytes in
    concluded_served n (is_whole n) (bytes_eq (sha1 (joined n.slots)) n.info_hash)

reject_part : (b : EndState) (p : Part) (k : ℕ) → IsPartFor (source_of b.part) p → IsPartFor (source_of b.part) (with_refused k p)
reject_part b Watching k for = tt
reject_part b (Serving own) k for = tt
reject_part b (Awaiting m) k for = tt
reject_part b (Fetched all) k for = for
reject_part b (Fetching s) k for = (for.0, for.1, reject_fetch for.0 s k for.2)

reject_served : (p : Part) (k : ℕ) → source_of (with_refused k p) ≡ source_of p
reject_served Watching k = refl
reject_served (Serving own) k = refl
reject_served (Awaiting m) k = refl
reject_served (Fetched all) k = refl
reject_served (Fetching s) k = refl

reply_right : {a b e : EndState} {c : Context} (k peer : ℕ) → IsOpen a b c e → IsConfigured a → IsConfigured b → (reads b a).ext ≡ true → k < 2 ^ 32
    → peer_id e ≡ Some peer → (p : Part) → source_of p ≡ source_of a.part → Reacts a b e.sends c (queueing e (m.Extended (reply p k) ∷ []))
reply_right {a} {b} {e} {c} k peer h own end agreed few is p serves = by_part p serves
  where
    rejects : Reacts a b e.sends c (queueing e (m.Extended (message_of (kind.Reject k) []) ∷ []))
    rejects = one_queued (kind.Reject k) [] peer h end agreed is few refl (omega arith) (reject k few refl)

    by_count : (metadata : List ℕ) → source_of a.part ≡ Some metadata → (there : Bool) → nat_lt k (block_count (length metadata)) ≡ there
        → Reacts a b e.sends c (queueing e (m.Extended (if there then message_of (kind.Data k (length metadata)) (block metadata k) else message_of
        (kind.Reject k) []) ∷ []))
    by_count metadata is_served false t = rejects
    by_count metadata is_served true t =
        let lt : k < block_count (length metadata) = ltb-true k (block_count (length metadata)) t in
        let right = block_right metadata k lt in
        let sized : IsMetadata metadata = own.serves metadata is_served in
        one_queued (kind.Data k (length metadata)) (block metadata k) peer h end agreed is (
          few,
          omega (arith, sized.least),
          omega (arith, sized.most),
        ) right.0 right.1 (data_of metadata k is_served lt refl)

    by_part : (p : Part) → source_of p ≡ source_of a.part → Reacts a b e.sends c (queueing e (m.Extended (reply p k) ∷ []))
    by_part (Serving metadata) is_served = by_count metadata (sym is_served) (nat_lt k (block_count (length metadata))) refl
    by_part Watching is_served = rejects
    by_part (Awaiting m) is_served = rejects
    by_part (Fetching s) is_served = rejects
    by_part (Fetched metadata) is_served = rejects

reply_by : {a b e : EndState} {c : Context} (k : ℕ) → IsOpen a b c e → IsConfigured a → IsConfigured b → (reads b a).ext ≡ true → k < 2 ^ 32
    → (peer : Option ℕ) → peer_id e ≡ peer → Reacts a b e.sends c (if is_some peer then queueing e (m.Extended (reply e.part k) ∷ []) else quiet e)
reply_by {a} {b} {e} {c} k h own end agreed few None is = quiet_reacts a b e c h
reply_by {e} k h own end agreed few (Some peer) is = reply_right k peer h own end agreed few is e.part h.still.serves

-- ---- an extended message

pub extended_reacts : (a b e : EndState) (c : Context) (x : Ext) → IsOpen a b c e → IsConfigured a → IsConfigured b → (reads b a).ext ≡ true
    → IsOwn b.own.reg (source_of b.part) (served_size b.part) x → Reacts a b e.sends c (at_extended e x)
extended_reacts a b e c x h own end agreed (greeting is) =
    subst (λ (y : Ext). Reacts a b e.sends c (at_extended e y)) (sym is) (greeting_reacts a b e c h end agreed)
extended_reacts a b e c x h own end agreed (request k few is) =
    let r : Reacts a b e.sends c (by_kind e (kind.Request k) []) = reply_by k h own end agreed few (peer_id e) refl in
    subst (λ (y : Ext). Reacts a b e.sends c (at_extended e y)) (sym is) (subst (λ (j : Kind). Reacts a b e.sends c (by_kind e j []))
    (sym (kind_made (kind.Request k) few)) r)
extended_reacts a b e c x h own end agreed (data_of metadata k serves lt is) =
    let sized : IsMetadata metadata = end.serves metadata serves in
    let made : IsMade (kind.Data k (length metadata)) = (omega (arith, sized.most, lt), omega (arith, sized.least), omega (arith, sized.most)) in
    let part : Part = with_block k (length metadata) (block metadata k) e.part in
    let r : Reacts a b e.sends c (by_kind e (kind.Data k (length metadata)) (block metadata k)) =
    asked_reacts a b (block_taken e k (length metadata) (block metadata k)) c
    (counted_open a b (with_part e part) c (block_taken e k (length metadata) (block metadata k)).mismatches
    (with_part_open a b e c part h (data_served e.part k (length metadata) (block metadata k) ∙ h.still.serves)
    (data_part b e.part metadata k end serves lt h.knows.part))) end agreed in
    subst (λ (y : Ext). Reacts a b e.sends c (at_extended e y)) (sym is) (subst (λ (j : Kind). Reacts a b e.sends c (by_kind e j (block metadata k)))
    (sym (kind_made (kind.Data k (length metadata)) made)) r)
extended_reacts a b e c x h own end agreed (taken_back i is) =
    subst (λ (y : Ext). Reacts a b e.sends c (at_extended e y)) (sym is) (quiet_reacts a b e c h)
extended_reacts a b e c x h own end agreed (reject k few is) =
    let part : Part = with_refused k e.part in
    let r : Reacts a b e.sends c (by_kind e (kind.Reject k) []) =
    asked_reacts a b (with_part e part) c (with_part_open a b e c part h (reject_served e.part k ∙ h.still.serves) (reject_part b e.part k h.knows.part))
    end agreed in
    subst (λ (y : Ext). Reacts a b e.sends c (at_extended e y)) (sym is) (subst (λ (j : Kind). Reacts a b e.sends c (by_kind e j []))
    (sym (kind_made (kind.Reject k) few)) r)

-- ---- the handshake

and-comm : (x y : Bool) → (x && y) ≡ (y && x)
and-comm true true = refl
and-comm true false = refl
and-comm false true = refl
and-comm false false = refl

-- both read what both have agreed on
pub agreed_ext : (a b : EndState) → (reads a b).ext ≡ (reads b a).ext
agreed_ext a b = and-comm (sets_extension a.own.reserved) (sets_extension b.own.reserved)

pub agreed_fast : (a b : EndState) → (reads a b).fast ≡ (reads b a).fast
agreed_fast a b = and-comm (sets_fast a.own.reserved) (sets_fast b.own.reserved)

size_of_served : (p : Part) → served_size p ≡ option_map length (source_of p)
size_of_served Watching = refl
size_of_served (Serving metadata) = refl
size_of_served (Awaiting m) = refl
size_of_served (Fetching s) = refl
size_of_served (Fetched metadata) = refl

size_same : (p q : Part) → source_of p ≡ source_of q → served_size p ≡ served_size q
size_same p q e = size_of_served p ∙ ap (option_map length) e ∙ sym (size_of_served q)

size_within : (o : Option (List ℕ)) → ForSome o (λ metadata. IsMetadata metadata) → ForSome (option_map length o) (λ n. n < 2 ^ 63)
size_within None h n e = absurd cc
size_within (Some metadata) h n e = let sized : IsMetadata metadata = h metadata refl in let same : length metadata ≡ n = cc in omega (arith, sized.most)

greets : (a b e : EndState) (c : Context) → IsStill a e → IsConfigured a → IsConfigured b → c.ext ≡ true → 32768 ≤ c.limit → (reads b a).ext ≡ true
    → IsFor c (reads b a) Fresh (m.Extended (handshake_of e.own.reg (served_size e.part)))
greets a b e c still own end known room agreed =
    let ids : HaveBytes e.own.reg = subst (λ (o : Own). HaveBytes o.reg) (sym still.own) own.ids in
    let sizes : ForSome (served_size e.part) (λ n. n < 2 ^ 63) =
    subst (λ (o : Option ℕ). ForSome o (λ n. n < 2 ^ 63)) (sym (size_same e.part a.part still.serves ∙ size_of_served a.part))
    (size_within (source_of a.part) own.serves) in
    greeting_for c (reads b a) Fresh e.own.reg (served_size e.part) known room agreed end.least ids sizes

opening_said : (d : Context) (msg : Message) → d.fast ≡ true → 32768 ≤ d.limit → (msg ≡ m.HaveAll) ⊎ (msg ≡ m.HaveNone) → IsSaid d Fresh 0 msg
opening_said d msg fast least (inl e) = subst (λ (x : Message). IsSaid d Fresh 0 x) (sym e) (record {
  in_range = record { id = omega arith; fields = tt };
  legal = record {
    shaped = tt;
    short = omega arith;
    agreed = fast;
    indexed = tt;
    sized = tt;
    spare = tt;
    known = never (is_strict d);
    in_time = never (is_strict d);
    opened = never (is_strict d);
    allowed = tt;
  };
  start = omega arith;
})
opening_said d msg fast least (inr e) = subst (λ (x : Message). IsSaid d Fresh 0 x) (sym e) (record {
  in_range = record { id = omega arith; fields = tt };
  legal = record {
    shaped = tt;
    short = omega arith;
    agreed = fast;
    indexed = tt;
    sized = tt;
    spare = tt;
    known = never (is_strict d);
    in_time = never (is_strict d);
    opened = never (is_strict d);
    allowed = tt;
  };
  start = omega arith;
})

opening_same : (c d : Context) (msg : Message) → (msg ≡ m.HaveAll) ⊎ (msg ≡ m.HaveNone) → spell c msg ≡ spell d msg
opening_same c d msg (inl e) = subst (λ (x : Message). spell c x ≡ spell d x) (sym e) refl
opening_same c d msg (inr e) = subst (λ (x : Message). spell c x ≡ spell d x) (sym e) refl

opening_for : (c d : Context) (msg : Message) → c.fast ≡ true → 32768 ≤ c.limit → d.fast ≡ true → 32768 ≤ d.limit → (msg ≡ m.HaveAll) ⊎ (msg ≡ m.HaveNone)
    → IsFor c d Fresh msg
opening_for c d msg known room fast least e = record {
  said = opening_said c msg known room e;
  in_range = (opening_said d msg fast least e).in_range;
  legal = (opening_said d msg fast least e).legal;
  same = opening_same c d msg e;
}

announces : (c d : Context) (w : Announce) (fast : Bool) → fast ≡ c.fast → 32768 ≤ c.limit → fast ≡ d.fast → 32768 ≤ d.limit
    → AreFor c d Fresh (if fast then announced w else [])
announces c d w false f room e least = tt
announces c d announce.Silent true f room e least = tt
announces c d announce.All true f room e least = (opening_for c d m.HaveAll (sym f) room (sym e) least (inl refl), tt)
announces c d announce.Nothing true f room e least = (opening_for c d m.HaveNone (sym f) room (sym e) least (inr refl), tt)

announces_own : (a : EndState) (w : Announce) (fast : Bool) → AreHonest a (map items.Message (if fast then announced w else []))
announces_own a w false = tt
announces_own a announce.Silent true = tt
announces_own a announce.All true = (tt, tt)
announces_own a announce.Nothing true = (tt, tt)

greeting_all : {a b e : EndState} (c : Context) → IsStill a e → IsConfigured a → IsConfigured b → 32768 ≤ c.limit → (known : Bool) {fast : Bool} → known ≡ c.ext
    → fast ≡ c.fast → known ≡ (reads b a).ext → fast ≡ (reads b a).fast
    → AreFor c (reads b a) Fresh ((if known then m.Extended (handshake_of e.own.reg (served_size e.part)) ∷ [] else [])
    ++ (if fast then announced e.announce else []))
greeting_all {a} {b} {e} c still own end room true {fast} x y k f = (
  greets a b e c still own end (sym x) room (sym k),
  announces c (reads b a) e.announce fast y
      room f end.least,
)
greeting_all {a} {b} {e} c still own end room false {fast} x y k f = announces c (reads b a) e.announce fast y room f end.least

greeting_own : (a e : EndState) → IsStill a e → (known fast : Bool)
    → AreHonest a (map items.Message ((if known then m.Extended (handshake_of e.own.reg (served_size e.part)) ∷ [] else [])
    ++ (if fast then announced e.announce else [])))
greeting_own a e still true fast = (
  greeting (ap (λ (o : Own). handshake_of o.reg (served_size e.part)) still.own ∙ ap (handshake_of a.own.reg)
      (size_same e.part a.part still.serves)),
  announces_own a e.announce fast,
)
greeting_own a e still false fast = announces_own a e.announce fast

announced_few : (w : Announce) (fast : Bool) → length (if fast then announced w else []) ≤ 1
announced_few w false = omega arith
announced_few announce.Silent true = omega arith
announced_few announce.All true = omega arith
announced_few announce.Nothing true = omega arith

greeting_few : (a e : EndState) (known fast : Bool) → length ((if known then m.Extended (handshake_of e.own.reg (served_size e.part)) ∷ []
    else []) ++ (if fast then announced e.announce else [])) ≤ 8
greeting_few a e true fast = omega (arith, announced_few e.announce fast)
greeting_few a e false fast = omega (arith, announced_few e.announce fast)

-- an end that opens
pub greeted_reacts : (a b e : EndState) (c : Context) → IsStill a e → Knows b e → e.sends ≡ Fresh → IsConfigured a → IsConfigured b → c.ext
    ≡ (reads b a).ext → c.fast ≡ (reads b a).fast → Reacts a b Fresh c (greeted e c)
greeted_reacts a b e c still knows fresh own end ext fast =
    let o : EndState = opened e c in
    let least : 32768 ≤ e.own.limit = subst (λ (x : Own). 32768 ≤ x.limit) (sym still.own) own.least in
    let ready : IsOpen a b c o = record {
      still = record { own = still.own; handshake = still.handshake; serves = still.serves };
      context = refl;
      knows = record { table = knows.table; id = knows.id; donthave = knows.donthave; part = knows.part };
      ext = ext;
      least = least;
    } in
    let all : AreFor (belief o) (reads b a) Fresh (greeting_of o c) = greeting_all (belief o) still own end least c.ext refl refl ext fast in
    let r : Reacts a b e.sends c (queueing o (greeting_of o c)) = queueing_reacts a b o c (greeting_of o c) ready
    (subst (λ (w : Order). AreFor (belief o) (reads b a) w (greeting_of o c)) (sym fresh) all) (greeting_own a e still c.ext c.fast)
    (greeting_few a e c.ext c.fast) in
    subst (λ (w : Order). Reacts a b w c (queueing o (greeting_of o c))) fresh r
