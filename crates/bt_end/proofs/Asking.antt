-- Requests that are queued one after the other.
use Rattle.std.proofs.Common.{◌≡◌, ℕ, zero, suc, ◌+◌, ◌-◌, ◌*◌, ◌<◌, ◌≤◌, false, eqb, List, [], ◌∷◌, ◌++◌, length, append_assoc, map, Option, None, Some}
use Rattle.std.proofs.Common.{refl, sym, ap, subst, ◌∙◌, arith}
use Rattle.std.proofs.lemmas.Bool.{ne_eqb}
use Rattle.std.proofs.lemmas.List.{append-nil}
use Rattle.std.specs.Prelude.{option_and_then, option_map, unwrap_or}
use Rattle.bt_bencode.specs.Bencoding.{ben}
use Rattle.bt_ext.proofs.PeerIds.{metadata-told}
use Rattle.bt_ext.specs.Ids.{extension_id, metadata_id}
use Rattle.bt_ext.specs.Made.{message_of, message_tree}
use Rattle.bt_ext.specs.Payloads.{payload_of}
use Rattle.bt_ext.specs.declared.metadata.Kind.{Kind}
use Rattle.bt_ext.specs.declared.metadata.Kind.TheVariants as kind
use Rattle.bt_wire.specs.declared.context.Context.{Context}
use Rattle.bt_wire.specs.declared.message.Message.TheVariants as m
use Rattle.bt_wire.specs.declared.context.Order.{Order}
use Rattle.bt_wire.specs.Messages.{spell}
use Rattle.bt_wire.specs.Numbers.{be32}
use Rattle.bt_io.specs.Outbox.{Outgoing}
use Rattle.bt_end.specs.Ends.{EndState, Part, Watching, Serving, Awaiting, Fetching, Fetched, then_asked, block_taken, by_kind, peer_id, belief, spelled}
use Rattle.bt_end.specs.Ends.{orders_after, wanted, with_asked, with_part, all_wanted, with_all_asked, request_for, requesting}
use Rattle.bt_end.specs.Parts.{framed, part_of}
use Rattle.bt_metadata.specs.Blocks.{window}
use Rattle.bt_end.specs.Reactors.{end_of, IsReacted}
use Rattle.bt_end.specs.declared.part.Part.{Part as Code}
use Rattle.bt_end.specs.declared.reactor.Reactor.{Reactor}

pub none_wanted : (n most : ℕ) (p : Part) → wanted most p ≡ None → all_wanted n most p ≡ []
none_wanted zero most p e = refl
none_wanted (suc n) most p e = ap (λ (o : Option ℕ). unwrap_or (option_map (λ k. k ∷ all_wanted n most (with_asked (Some k) p)) o) []) e

pub next_wanted : (n m most k : ℕ) (p : Part) → n ≡ suc m → wanted most p ≡ Some k → all_wanted n most p ≡ k ∷ all_wanted m most (with_asked (Some k) p)
next_wanted n m most k p e is = ap (λ (x : ℕ). all_wanted x most p) e
    ∙ ap (λ (o : Option ℕ). unwrap_or (option_map (λ k. k ∷ all_wanted m most (with_asked (Some k) p)) o) []) is

-- requests leave the order of messages
pub same_order : (o : Order) (ks : List ℕ) → orders_after o (map request_for ks) ≡ o
same_order o [] = refl
same_order o (k ∷ ks) = same_order o ks

message_bytes : (c : Context) (k : Kind) (rest : List ℕ) (id : ℕ) → metadata_id c.reg ≡ Some id → spell c (m.Extended (message_of k rest))
    ≡ framed id (ben (message_tree k) ++ rest)
message_bytes c k rest id is =
    ap (λ (o : Option ℕ). be32 (length (20 ∷ unwrap_or o 0 ∷ payload_of (message_of k rest))) ++ 20 ∷ unwrap_or o 0 ∷ payload_of (message_of k rest)) is
    ∙ ap (λ (n : ℕ). be32 n ++ 20 ∷ id ∷ payload_of (message_of k rest)) (omega arith)

an_id : (id : ℕ) → 0 < id → extension_id id ≡ Some id
an_id id h = let above : eqb id 0 ≡ false = ne_eqb id 0 (omega arith) in rw above refl

pub request_bytes : (e : EndState) (id k : ℕ) → 0 < id → peer_id e ≡ Some id → spell (belief e) (request_for k)
    ≡ framed id (ben (message_tree (kind.Request k)) ++ [])
request_bytes e id k h is = message_bytes (belief e) (kind.Request k) [] id (metadata-told e.table ∙ ap (option_and_then extension_id) is ∙ an_id id h)

-- ---- requests that are queued so far, n at most

pub record IsAsking {A : Type 0} (old now : Reactor A) (n : ℕ) : Type 0 where
  pub end : end_of now ≡ with_part (end_of old) (part_of now.part)
  pub part : with_all_asked (all_wanted (window - n) old.window (part_of now.part)) (part_of now.part)
      ≡ with_all_asked (all_wanted window old.window (part_of old.part)) (part_of old.part)
  pub bytes : now.outbox.bytes ++ spelled (end_of old) (map request_for (all_wanted (window - n) old.window (part_of now.part)))
      ≡ old.outbox.bytes ++ spelled (end_of old) (map request_for (all_wanted window old.window (part_of old.part)))
  pub bound : length now.outbox.bytes ≤ length old.outbox.bytes + 226 * n
  pub room : old.outbox.room ≤ now.outbox.room + 226 * n

pub none_queued : {A : Type 0} → (old : Reactor A) → IsAsking old old 0
none_queued old = record { end = refl; part = refl; bytes = refl; bound = omega arith; room = omega arith }

-- what one request leaves
pub record IsRequested {A : Type 0} (now new : Reactor A) (id k : ℕ) : Type 0 where
  pub end : end_of new ≡ with_part (end_of now) (part_of new.part)
  pub part : part_of new.part ≡ with_asked (Some k) (part_of now.part)
  pub bytes : new.outbox.bytes ≡ now.outbox.bytes ++ framed id (ben (message_tree (kind.Request k)) ++ [])
  pub bound : length new.outbox.bytes ≤ length now.outbox.bytes + 226
  pub room : now.outbox.room ≤ new.outbox.room + 226

pub one_queued : {A : Type 0} → {old now : Reactor A} (new : Reactor A) {n id k : ℕ} → n < window → 0 < id → peer_id (end_of old) ≡ Some id → IsAsking old now n
    → wanted old.window (part_of now.part) ≡ Some k → IsRequested now new id k → IsAsking old new (n + 1)
one_queued {old} {now} new {n} {id} {k} lt above is h next r =
    let p = part_of now.part in
    let rest : all_wanted (window - n) old.window p ≡ k ∷ all_wanted (window - (n + 1)) old.window (with_asked (Some k) p) =
    next_wanted (window - n) (window - (n + 1)) old.window k p (omega arith) next in
    let later : Part → List ℕ = λ q. all_wanted (window - (n + 1)) old.window q in
    let part_is : with_all_asked (later (part_of new.part)) (part_of new.part) ≡ with_all_asked (all_wanted (window - n) old.window p) p =
    ap (λ q. with_all_asked (later q) q) r.part ∙ sym (ap (λ ks. with_all_asked ks p) rest) in
    let bytes_are : new.outbox.bytes ++ spelled (end_of old) (map request_for (later (part_of new.part))) ≡ now.outbox.bytes
    ++ spelled (end_of old) (map request_for (all_wanted (window - n) old.window p)) =
    ap (λ q. new.outbox.bytes ++ spelled (end_of old) (map request_for (later q))) r.part
    ∙ ap (λ xs. xs ++ spelled (end_of old) (map request_for (later (with_asked (Some k) p)))) (r.bytes
    ∙ ap (λ xs. now.outbox.bytes ++ xs) (sym (request_bytes (end_of old) id k above is)))
    ∙ append_assoc now.outbox.bytes (spell (belief (end_of old)) (request_for k)) (spelled (end_of old) (map request_for (later (with_asked (Some k) p))))
    ∙ ap (λ ks. now.outbox.bytes ++ spelled (end_of old) (map request_for ks)) (sym rest) in
    record {
      end = r.end ∙ ap (λ e. with_part e (part_of new.part)) h.end;
      part = part_is ∙ h.part;
      bytes = bytes_are ∙ h.bytes;
      bound = omega (arith, h.bound, r.bound);
      room = omega (arith, h.room, r.room);
    }

-- no request is left
pub all_queued : {A : Type 0} → (old now : Reactor A) (n : ℕ) → n ≤ window → IsAsking old now n → all_wanted (window - n) old.window (part_of now.part) ≡ []
    → IsReacted old now (requesting (end_of old) (all_wanted window old.window (part_of old.part)))
all_queued old now n le h none =
    let ks = all_wanted window old.window (part_of old.part) in
    let part_is : part_of now.part ≡ with_all_asked ks (part_of old.part) = sym (ap (λ xs. with_all_asked xs (part_of now.part)) none) ∙ h.part in
    record {
      end = h.end ∙ ap (with_part (end_of old)) part_is ∙ ap (λ (o : Order). record (with_part (end_of old) (with_all_asked ks (part_of old.part)))
          { sends = o }) (sym (same_order old.sends ks));
      queued = sym (append-nil now.outbox.bytes) ∙ sym (ap (λ xs. now.outbox.bytes ++ spelled (end_of old) (map request_for xs)) none) ∙ h.bytes;
      bound = omega (arith, h.bound);
    }

not_asked : (p : Part) → with_asked None p ≡ p
not_asked (Fetching a) = refl
not_asked Watching = refl
not_asked (Serving metadata) = refl
not_asked (Awaiting most) = refl
not_asked (Fetched metadata) = refl

-- there is no block to ask for
pub nothing_queued : {A : Type 0} → (old now : Reactor A) (part : Code A) (n : ℕ) → n ≤ window → IsAsking old now n → wanted now.window (part_of now.part)
    ≡ None → part_of part ≡ with_asked None (part_of now.part)
    → IsReacted old (record now { part = part }) (requesting (end_of old) (all_wanted window old.window (part_of old.part)))
nothing_queued old now part n le h none same =
    let is : part_of part ≡ part_of now.part = same ∙ not_asked (part_of now.part) in
    let most : now.window ≡ old.window = ap (λ e. e.window) h.end in
    let r = all_queued old now n le h (none_wanted (window - n) old.window (part_of now.part) (ap (λ w. wanted w (part_of now.part)) (sym most) ∙ none)) in
    record { end = ap (with_part (end_of now)) is ∙ r.end; queued = r.queued; bound = r.bound }

-- a block is taken, and then requests are queued
pub data_reacted : {A : Type 0} → (old mid new : Reactor A) (k : Kind) (piece total : ℕ) (bytes : List ℕ) → k ≡ kind.Data piece total → end_of mid
    ≡ block_taken (end_of old) piece total bytes → mid.outbox ≡ old.outbox
    → IsReacted mid new (then_asked (end_of mid)) → IsReacted old new (by_kind (end_of old) k bytes)
data_reacted old mid new k piece total bytes is same box h =
    let e : then_asked (end_of mid) ≡ by_kind (end_of old) k bytes = ap then_asked same ∙ ap (λ x. by_kind (end_of old) x bytes) (sym is) in
    let r : IsReacted mid new (by_kind (end_of old) k bytes) = subst (IsReacted mid new) e h in
    let bytes_are : mid.outbox.bytes ≡ old.outbox.bytes = ap (λ (o : Outgoing). o.bytes) box in
    record {
      end = r.end;
      queued = r.queued ∙ ap (λ (xs : List ℕ). xs ++ spelled (by_kind (end_of old) k bytes).end (by_kind (end_of old) k bytes).queued) bytes_are;
      bound = omega (arith, r.bound, ap (length {A = ℕ}) bytes_are);
    }
