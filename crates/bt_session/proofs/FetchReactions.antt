-- What an end that serves and one that fetches make of each item of the other.
use Rattle.std.proofs.Common.{◌≡◌, ℕ, ◌+◌, ◌^◌, ◌<◌, ◌≤◌, ◌⊎◌, inl, inr, Bool, true, false, ◌&&◌, eqb, if◌then◌else◌, List, [], ◌∷◌, ◌++◌, length, map}
use Rattle.std.proofs.Common.{Option, Some, None, is_some, nat_lt, refl, sym, ap, subst, ◌∙◌, arith}
use Rattle.std.proofs.lemmas.Bool.{lt-ltb}
use Rattle.std.specs.Option.{IsSome, ForSome}
use Rattle.std.specs.Prelude.{option_and_then}
use Rattle.sha1.specs.Sha1.{sha1}
use Rattle.bt_bencode.specs.Trees.{Tree}
use Rattle.bt_ext.specs.Fields.{size_of}
use Rattle.bt_ext.specs.Ids.{HaveBytes, metadata_name, donthave_name, metadata_id, donthave_id, extension_id}
use Rattle.bt_ext.specs.Made.{IsMade, message_of, handshake_of, handshake_tree}
use Rattle.bt_ext.specs.Metadata.{block_count}
use Rattle.bt_ext.specs.Payloads.{payload_of}
use Rattle.bt_ext.specs.Tables.{Entries, id_of_name, entered_all, told, applied}
use Rattle.bt_ext.specs.declared.ext.Ext.{Ext}
use Rattle.bt_ext.specs.declared.ids.Registered.{Registered}
use Rattle.bt_ext.specs.declared.metadata.Kind.{Kind}
use Rattle.bt_ext.specs.declared.metadata.Kind.TheVariants as kind
use Rattle.bt_ext.proofs.MadeKinds.{kind_made}
use Rattle.bt_ext.proofs.MadeRight.{handshake-tells}
use Rattle.bt_wire.specs.declared.context.Own.{Own}
use Rattle.bt_wire.specs.declared.handshake.Handshake.{Handshake}
use Rattle.bt_wire.specs.declared.item.Item.{Item}
use Rattle.bt_wire.specs.declared.item.Item.TheVariants as items
use Rattle.bt_wire.specs.declared.reserved.Reserved.{Reserved}
use Rattle.bt_wire.specs.Handshakes.{negotiated}
use Rattle.bt_wire.specs.Messages.{Message, spell, order_after}
use Rattle.bt_wire.specs.declared.message.Message.TheVariants as m
use Rattle.bt_wire.proofs.SpellLaws.{length-spell}
use Rattle.bt_metadata.specs.Blocks.{block, window, max_metadata}
use Rattle.bt_end.specs.declared.config.Announce.{Announce}
use Rattle.bt_end.specs.declared.config.Announce.TheVariants as announce
use Rattle.bt_end.specs.Ends.{EndState, Reaction, Part, Serving, Awaiting, served_size, peer_id, quiet, queueing, react, announced, then_asked, may_ask}
use Rattle.bt_end.specs.Ends.{all_wanted, with_all_asked, wanted, requesting, request_for, learnt, assembly_of, begun, by_kind, block_taken}
use Rattle.bt_end.specs.Ends.{with_part, reply}
use Rattle.bt_session.specs.FetchLaws.{IsFetchPair}
use Rattle.bt_session.specs.LinkLaws.{IsMetadata}
use Rattle.bt_session.specs.MessageLinks.{bare, size}
use Rattle.bt_session.proofs.FetchParts.{IsFetchOf, lacking, AreBelow, AsksAll, fetch_begins, fetch_asks, fetch_takes}
use Rattle.bt_session.proofs.OwnMessages.{message_length, greeting_length, block_right}

-- ---- messages

-- what an end has handled of what the other one sent: nothing, its handshake, or its extended handshake too
pub data Heard : Type 0 where
  Unheard : Heard
  Opened : Heard
  Known : Heard

abbrev pub greeting_message : Registered → Option ℕ → Message
greeting_message reg size = m.Extended (handshake_of reg size)

abbrev pub data_message : List ℕ → ℕ → Message
data_message metadata k = m.Extended (message_of (kind.Data k (length metadata)) (block metadata k))

-- what an end may announce
abbrev pub IsNotice : Message → Type 0
IsNotice msg = (msg ≡ m.HaveAll) ⊎ (msg ≡ m.HaveNone)

abbrev pub AreNotices : List Message → Type 0
AreNotices [] = Unit {0}
AreNotices (x ∷ xs) = IsNotice x × AreNotices xs

-- ---- how long they are

abbrev pub AreShort : List Item → Type 0
AreShort [] = Unit {0}
AreShort (i ∷ is) = (size i ≤ 16610) × AreShort is

spell_extended : (e : Ext) → length (spell bare (m.Extended e)) ≡ 6 + length (payload_of e)
spell_extended e = omega (arith, length-spell bare (m.Extended e))

pub greeting_short : (reg : Registered) (n : Option ℕ) → HaveBytes reg → ForSome n (λ k. k < 2 ^ 63) → size (items.Message (greeting_message reg n)) ≤ 16610
greeting_short reg n ids few = omega (arith, spell_extended (handshake_of reg n), greeting_length reg n ids few)

pub data_short : (metadata : List ℕ) (k : ℕ) → IsMetadata metadata → k < block_count (length metadata) → size (items.Message (data_message metadata k)) ≤ 16610
data_short metadata k sized lt =
    let right = block_right metadata k lt in
    let made : IsMade (kind.Data k (length metadata)) = (omega (arith, sized.most, lt), omega (arith, sized.least), omega (arith, sized.most)) in
    omega (
      arith,
      spell_extended (message_of (kind.Data k (length metadata)) (block metadata k)),
      message_length (kind.Data k (length metadata)) (block metadata k) made,
      right.1,
    )

pub requests_short : (n : ℕ) (ks : List ℕ) → n ≤ 2 ^ 32 → AreBelow n ks → AreShort (map items.Message (map request_for ks))
requests_short n [] few h = tt
requests_short n (k ∷ ks) few h = (
  omega (arith, spell_extended (message_of (kind.Request k) []), message_length (kind.Request k) [] (omega (arith, h.0, few))),
  requests_short n ks few h.1,
)

notice_short : (msg : Message) → IsNotice msg → size (items.Message msg) ≤ 16610
notice_short msg (inl e) = subst (λ (x : Message). size (items.Message x) ≤ 16610) (sym e) (omega arith)
notice_short msg (inr e) = subst (λ (x : Message). size (items.Message x) ≤ 16610) (sym e) (omega arith)

pub notices_short : (xs : List Message) → AreNotices xs → AreShort (map items.Message xs)
notices_short [] h = tt
notices_short (x ∷ xs) h = (notice_short x h.0, notices_short xs h.1)

-- ---- ends

-- what an end knows of the other's ids
abbrev pub HasTable : Heard → Entries → Type 0
HasTable Unheard es = es ≡ []
HasTable Opened es = es ≡ []
HasTable Known es = IsSome (id_of_name metadata_name es)

-- an end that was made as a, and serves this
pub record IsServer (metadata : List ℕ) (a : EndState) (h : Heard) (e : EndState) : Type 0 where
  pub own : e.own ≡ a.own
  pub part : e.part ≡ Serving metadata
  pub table : HasTable h e.table

-- an end that was made as b, but for its part
pub record IsFetcher (b : EndState) (h : Heard) (e : EndState) : Type 0 where
  pub own : e.own ≡ b.own
  pub window : e.window ≡ b.window
  pub hash : e.handshake.info_hash ≡ b.handshake.info_hash
  pub table : HasTable h e.table

-- ---- the handshake

if_true : {X : Type 0} (t : Bool) (x y : X) → t ≡ true → (if t then x else y) ≡ x
if_true true x y e = refl
if_true false x y e = absurd cc

-- what an end announces to one with these reserved bits
abbrev pub notices : EndState → Reserved → List Message
notices e r = if (negotiated e.own r).fast then announced e.announce else []

notices_by : (w : Announce) (t : Bool) → AreNotices (if t then announced w else []) × (length (if t then announced w else []) ≤ 1)
notices_by w false = (tt, omega arith)
notices_by announce.Silent true = (tt, omega arith)
notices_by announce.All true = ((inl refl, tt), omega arith)
notices_by announce.Nothing true = ((inr refl, tt), omega arith)

pub notices_right : (e : EndState) (r : Reserved) → AreNotices (notices e r) × (length (notices e r) ≤ 1)
notices_right e r = notices_by e.announce (negotiated e.own r).fast

pub opens : (a b e : EndState) (n : Option ℕ) → e.own ≡ a.own → b.handshake.reserved ≡ b.own.reserved → (negotiated a.own b.own.reserved).ext ≡ true
    → served_size e.part ≡ n
    → (react e (items.Handshake b.handshake)).queued ≡ greeting_message a.own.reg n ∷ notices e b.handshake.reserved
opens a b e n own reserved agreed serves =
    let ext : (negotiated e.own b.handshake.reserved).ext ≡ true =
    ap (λ (o : Own). (negotiated o b.handshake.reserved).ext) own ∙ ap (λ (r : Reserved). (negotiated a.own r).ext) reserved ∙ agreed in
    ap (λ (xs : List Message). xs ++ notices e b.handshake.reserved) (if_true (negotiated e.own b.handshake.reserved).ext
    (greeting_message e.own.reg (served_size e.part) ∷ []) [] ext)
    ∙ ap (λ (o : Own). greeting_message o.reg (served_size e.part) ∷ notices e b.handshake.reserved) own
    ∙ ap (λ (k : Option ℕ). greeting_message a.own.reg k ∷ notices e b.handshake.reserved) serves

-- ---- ids that the other end tells

above_zero : (o : Option ℕ) (n : ℕ) → option_and_then extension_id o ≡ Some n → eqb n 0 ≡ false
above_zero None n e = absurd cc
above_zero (Some k) n e = by_zero k n (eqb k 0) refl e
  where
    by_zero : (k n : ℕ) (z : Bool) → eqb k 0 ≡ z → (if z then None else Some k) ≡ Some n → eqb n 0 ≡ false
    by_zero k n true t e = absurd cc
    by_zero k n false t e = let same : k ≡ n = cc in ap (λ (x : ℕ). eqb x 0) (sym same) ∙ t

told_known : (d o : Option ℕ) → IsSome o → ((n : ℕ) → o ≡ Some n → eqb n 0 ≡ false)
    → IsSome (id_of_name metadata_name (entered_all (told donthave_name d ++ told metadata_name o) []))
told_known d None h above = absurd cc
told_known None (Some n) h above = let z : eqb n 0 ≡ false = above n refl in rw z refl
told_known (Some j) (Some n) h above = by_zero (eqb j 0) refl
  where
    by_zero : (t : Bool) → eqb j 0 ≡ t → IsSome (id_of_name metadata_name (entered_all (told donthave_name (Some j) ++ told metadata_name (Some n)) []))
    by_zero true e = let z : eqb n 0 ≡ false = above n refl in rw (e, z) refl
    by_zero false e = let z : eqb n 0 ≡ false = above n refl in rw (e, z) refl

-- after the other's extended handshake its id is known
knows : (reg : Registered) (n : Option ℕ) (es : Entries) → HaveBytes reg → IsSome (metadata_id reg) → es ≡ []
    → IsSome (id_of_name metadata_name (applied (handshake_tree reg n) es))
knows reg n es ids is none =
    subst (λ (t : Entries). IsSome (id_of_name metadata_name (applied (handshake_tree reg n) t))) (sym none)
    (subst (λ (xs : Entries). IsSome (id_of_name metadata_name (entered_all xs []))) (sym (handshake-tells reg n ids).0)
    (told_known (donthave_id reg) (metadata_id reg) is (above_zero reg.metadata)))

-- ---- an end that serves

-- it queues nothing, and serves on
pub record IsUnmoved (metadata : List ℕ) (e : EndState) (r : Reaction) : Type 0 where
  pub own : r.end.own ≡ e.own
  pub table : r.end.table ≡ e.table
  pub part : r.end.part ≡ Serving metadata
  pub queued : r.queued ≡ []

asks_none : (metadata : List ℕ) (e : EndState) → e.part ≡ Serving metadata → IsUnmoved metadata e (then_asked e)
asks_none metadata e is =
    subst (λ (p : Part). IsUnmoved metadata (with_part e p) (then_asked (with_part e p))) (sym is) (by_may (may_ask e))
  where
    by_may : (may : Bool) → IsUnmoved metadata (with_part e (Serving metadata)) (if may then requesting (with_part e (Serving metadata)) [] else quiet
        (with_part e (Serving metadata)))
    by_may true = record { own = refl; table = refl; part = refl; queued = refl }
    by_may false = record { own = refl; table = refl; part = refl; queued = refl }

serves_on : (metadata hash : List ℕ) (p : Part) (n : Option ℕ) → p ≡ Serving metadata → begun (assembly_of hash p n) p ≡ Serving metadata
serves_on metadata hash p n e = subst (λ (q : Part). begun (assembly_of hash q n) q ≡ Serving metadata) (sym e) refl

pub server_opens : (metadata : List ℕ) (a b e : EndState) → IsServer metadata a Unheard e
    → IsServer metadata a Opened (react e (items.Handshake b.handshake)).end
server_opens metadata a b e s = record { own = s.own; part = s.part; table = s.table }

pub server_learns : (metadata : List ℕ) (a b e : EndState) (n : Option ℕ) → IsServer metadata a Opened e → HaveBytes b.own.reg → IsSome (metadata_id b.own.reg)
    → IsServer metadata a Known (react e (items.Message (greeting_message b.own.reg n))).end
    × ((react e (items.Message (greeting_message b.own.reg n))).queued ≡ [])
server_learns metadata a b e n s ids is =
    let msg : Message = greeting_message b.own.reg n in
    let t : Tree = handshake_tree b.own.reg n in
    let f : EndState = learnt (record e { receives = order_after e.receives msg }) t in
    let r = asks_none metadata f (serves_on metadata e.handshake.info_hash e.part (size_of t) s.part) in (
      record {
        own = r.own ∙ s.own;
        part = r.part;
        table = subst (λ (es : Entries). IsSome (id_of_name metadata_name es)) (sym r.table) (knows b.own.reg n e.table ids is s.table);
      },
      r.queued,
    )

served_data : (metadata : List ℕ) (p : Part) (k : ℕ) → p ≡ Serving metadata → k < block_count (length metadata)
    → m.Extended (reply p k) ≡ data_message metadata k
served_data metadata p k is lt =
    ap (λ (q : Part). m.Extended (reply q k)) is
    ∙ ap m.Extended (if_true (nat_lt k (block_count (length metadata))) (message_of (kind.Data k (length metadata)) (block metadata k))
    (message_of (kind.Reject k) []) (lt-ltb k (block_count (length metadata)) lt))

pub server_replies : (metadata : List ℕ) (a e : EndState) (k : ℕ) → IsServer metadata a Known e → IsMetadata metadata → k < block_count (length metadata)
    → IsServer metadata a Known (react e (items.Message (request_for k))).end
    × ((react e (items.Message (request_for k))).queued ≡ data_message metadata k ∷ [])
server_replies metadata a e k s sized lt =
    let f : EndState = record e { receives = order_after e.receives (request_for k) } in
    let made : k < 2 ^ 32 = omega (arith, sized.most, lt) in
    let is : react e (items.Message (request_for k)) ≡ queueing f (m.Extended (reply f.part k) ∷ []) =
    ap (λ (j : Kind). by_kind f j []) (kind_made (kind.Request k) made)
    ∙ if_true (is_some (peer_id f)) (queueing f (m.Extended (reply f.part k) ∷ [])) (quiet f) s.table in (
      subst (λ (r : Reaction). IsServer metadata a Known r.end) (sym is) (record { own = s.own; part = s.part; table = s.table }),
      ap (λ (r : Reaction). r.queued) is ∙ ap (λ (x : Message). x ∷ []) (served_data metadata e.part k s.part lt),
    )

-- ---- an end that does nothing

-- it is as before, but for orders
pub record IsAsBefore (e : EndState) (r : Reaction) : Type 0 where
  pub own : r.end.own ≡ e.own
  pub table : r.end.table ≡ e.table
  pub part : r.end.part ≡ e.part
  pub window : r.end.window ≡ e.window
  pub hash : r.end.handshake ≡ e.handshake
  pub queued : r.queued ≡ []

pub at_notice : (e : EndState) (msg : Message) → IsNotice msg → IsAsBefore e (react e (items.Message msg))
at_notice e msg (inl is) =
    subst (λ (x : Message). IsAsBefore e (react e (items.Message x))) (sym is)
    (record { own = refl; table = refl; part = refl; window = refl; hash = refl; queued = refl })
at_notice e msg (inr is) =
    subst (λ (x : Message). IsAsBefore e (react e (items.Message x))) (sym is)
    (record { own = refl; table = refl; part = refl; window = refl; hash = refl; queued = refl })

as_known : (e : EndState) (es : Entries) → es ≡ e.table → HasTable Known e.table → HasTable Known es
as_known e es is h = subst (λ (t : Entries). IsSome (id_of_name metadata_name t)) (sym is) h

pub server_rests : (metadata : List ℕ) (a e : EndState) (r : Reaction) → IsServer metadata a Known e → IsAsBefore e r → IsServer metadata a Known r.end
server_rests metadata a e r s h = record { own = h.own ∙ s.own; part = h.part ∙ s.part; table = as_known e r.end.table h.table s.table }

pub fetcher_rests : (b e : EndState) (r : Reaction) → IsFetcher b Known e → IsAsBefore e r → IsFetcher b Known r.end
fetcher_rests b e r f h = record {
  own = h.own ∙ f.own;
  window = h.window ∙ f.window;
  hash = ap (λ (x : Handshake). x.info_hash) h.hash ∙ f.hash;
  table = as_known e r.end.table h.table f.table;
}

-- ---- an end that fetches

pub fetcher_opens : (a b e : EndState) → IsFetcher b Unheard e → IsFetcher b Opened (react e (items.Handshake a.handshake)).end
fetcher_opens a b e f = record { own = f.own; window = f.window; hash = f.hash; table = f.table }

-- the part has asked for these blocks, and asks for no more
pub record IsAsked (metadata : List ℕ) (w : ℕ) (p : Part) (asked : List ℕ) : Type 0 where
  pub is : IsFetchOf metadata p asked
  pub none : wanted w p ≡ None
  pub few : length asked ≤ w

-- an end that had asked for these blocks, asks for more
pub record Asks (metadata : List ℕ) (b : EndState) (asked : List ℕ) (lacked : ℕ) (r : Reaction) : Type 0 where
  pub more : List ℕ
  pub fetcher : IsFetcher b Known r.end
  pub part : IsAsked metadata b.window r.end.part (asked ++ more)
  pub below : AreBelow (block_count (length metadata)) more
  pub lacks : lacked ≡ length more + lacking r.end.part
  pub queued : r.queued ≡ map request_for more

both : (x y : Bool) → x ≡ true → y ≡ true → (x && y) ≡ true
both true true e f = refl
both false y e f = absurd cc
both true false e f = absurd cc

asks_on : (metadata : List ℕ) (b e : EndState) (asked : List ℕ) → IsFetcher b Known e → IsSome (metadata_id b.own.reg) → b.window ≤ window
    → IsFetchOf metadata e.part asked → length asked ≤ b.window → Asks metadata b asked (lacking e.part) (then_asked e)
asks_on metadata b e asked f id most is few =
    let may : may_ask e ≡ true = both (is_some (metadata_id e.own.reg)) (is_some (peer_id e))
    (ap (λ (o : Own). is_some (metadata_id o.reg)) f.own ∙ id) f.table in
    let ks : List ℕ = all_wanted window e.window e.part in
    let all : AsksAll metadata e.window e.part asked ks = fetch_asks metadata e.window e.part asked (omega (arith, f.window)) is (omega (arith, f.window)) in
    subst (λ (r : Reaction). Asks metadata b asked (lacking e.part) r) (sym (if_true (may_ask e) (requesting e ks) (quiet e) may)) (record {
      more = ks;
      fetcher = record { own = f.own; window = f.window; hash = f.hash; table = f.table };
      part = record {
        is = all.is;
        none = subst (λ (w : ℕ). wanted w (with_all_asked ks e.part) ≡ None) f.window all.none;
        few = omega (arith, all.few, f.window);
      };
      below = all.below;
      lacks = all.lacks;
      queued = refl;
    })

begins : (metadata hash : List ℕ) (p : Part) (n : Option ℕ) → IsMetadata metadata → sha1 metadata ≡ hash → p ≡ Awaiting max_metadata → n ≡ Some (length metadata)
    → IsFetchOf metadata (begun (assembly_of hash p n) p) [] × (lacking (begun (assembly_of hash p n) p) ≡ block_count (length metadata))
begins metadata hash p n sized is awaits known =
    subst (λ (q : Part). IsFetchOf metadata (begun (assembly_of hash q n) q) [] × (lacking (begun (assembly_of hash q n) q) ≡ block_count (length metadata)))
    (sym awaits) (subst (λ (o : Option ℕ). IsFetchOf metadata (begun (assembly_of hash (Awaiting max_metadata) o) (Awaiting max_metadata)) []
    × (lacking (begun (assembly_of hash (Awaiting max_metadata) o) (Awaiting max_metadata)) ≡ block_count (length metadata))) (sym known) (fetch_begins metadata hash sized is))

pub fetcher_learns : {metadata : List ℕ} {a b e : EndState} → IsFetchPair metadata a b → IsMetadata metadata → IsFetcher b Opened e → e.part ≡ Awaiting max_metadata
    → Asks metadata b [] (block_count (length metadata)) (react e (items.Message (greeting_message a.own.reg (Some (length metadata)))))
fetcher_learns {metadata} {a} {b} {e} p sized f awaits =
    let n : Option ℕ = Some (length metadata) in
    let msg : Message = greeting_message a.own.reg n in
    let t : Tree = handshake_tree a.own.reg n in
    let g : EndState = learnt (record e { receives = order_after e.receives msg }) t in
    let tells = handshake-tells a.own.reg n p.left.is.ids in
    let h = begins metadata e.handshake.info_hash e.part (size_of t) sized (p.hash ∙ sym f.hash) awaits tells.1 in
    let table = knows a.own.reg n e.table p.left.is.ids p.left_id f.table in
    let fetcher : IsFetcher b Known g = record { own = f.own; window = f.window; hash = f.hash; table = table } in
    subst (λ (k : ℕ). Asks metadata b [] k (then_asked g)) h.1 (asks_on metadata b g [] fetcher p.right_id p.most h.0 (omega arith))

pub fetcher_takes : (metadata : List ℕ) (b e : EndState) (k : ℕ) (ks : List ℕ) → IsFetcher b Known e → IsAsked metadata b.window e.part (k ∷ ks)
    → IsMetadata metadata → k < block_count (length metadata) → IsSome (metadata_id b.own.reg) → b.window ≤ window
    → Asks metadata b ks (lacking e.part) (react e (items.Message (data_message metadata k)))
fetcher_takes metadata b e k ks f asked sized lt id most =
    let msg : Message = data_message metadata k in
    let bytes : List ℕ = block metadata k in
    let e1 : EndState = record e { receives = order_after e.receives msg } in
    let g : EndState = block_taken e1 k (length metadata) bytes in
    let made : IsMade (kind.Data k (length metadata)) = (omega (arith, sized.most, lt), omega (arith, sized.least), omega (arith, sized.most)) in
    let h = fetch_takes metadata e.part k ks asked.is in
    let fetcher : IsFetcher b Known g = record { own = f.own; window = f.window; hash = f.hash; table = f.table } in
    let r : Asks metadata b ks (lacking e.part) (then_asked g) =
    subst (λ (n : ℕ). Asks metadata b ks n (then_asked g)) h.1 (asks_on metadata b g ks fetcher id most h.0 (omega (arith, asked.few))) in
    subst (λ (j : Kind). Asks metadata b ks (lacking e.part) (by_kind e1 j bytes)) (sym (kind_made (kind.Data k (length metadata)) made)) r
