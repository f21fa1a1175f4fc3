-- What an item makes of an end that serves: it goes on serving, and its event tells how many messages it queues.
use Rattle.std.proofs.Common.{◌≡◌, ℕ, zero, suc, ◌+◌, Bool, true, false, List, [], ◌∷◌, ◌++◌, length, map, Option, Some, None, is_some, if◌then◌else◌, refl, ap, ◌∙◌}
use Rattle.std.proofs.Common.{nat_lt, subst, sym}
use Rattle.bt_bencode.specs.Views.{tree_of}
use Rattle.bt_ext.specs.Fields.{size_of}
use Rattle.bt_ext.specs.Metadata.{kind_of, block_count}
use Rattle.bt_ext.specs.declared.ext.Ext.{Ext}
use Rattle.bt_ext.specs.declared.ext.Ext.TheVariants as ext
use Rattle.bt_ext.specs.Made.{handshake_of}
use Rattle.bt_ext.specs.declared.metadata.Kind.{Kind}
use Rattle.bt_ext.specs.declared.metadata.Kind.TheVariants as kind
use Rattle.bt_wire.specs.declared.context.Context.{Context}
use Rattle.bt_wire.specs.declared.context.Order.{Order}
use Rattle.bt_wire.specs.declared.item.Item.{Item}
use Rattle.bt_wire.specs.declared.item.Item.TheVariants as items
use Rattle.bt_wire.specs.Handshakes.{negotiated}
use Rattle.bt_wire.specs.Messages.{Message, order_after}
use Rattle.bt_wire.specs.declared.message.Message.TheVariants as m
use Rattle.bt_metadata.specs.Blocks.{window}
use Rattle.bt_end.specs.Ends.{Part, Serving, EndState, Reaction, all_wanted, announced, assembly_of, at_extended, at_message, begun, belief, block_taken, by_kind, greeting}
use Rattle.bt_end.specs.Ends.{learnt, may_ask, opened, peer_id, queueing, quiet, react, reply, request_for, requesting, served_size, then_asked, with_all_asked}
use Rattle.bt_end.specs.Ends.{with_block, with_part, with_refused}
use Rattle.bt_end.specs.Events.{answer_event, block_event, event_of, extended_event, kind_event, message_event, reject_event}
use Rattle.bt_end.specs.declared.config.Announce.{Announce}
use Rattle.bt_end.specs.declared.config.Announce.TheVariants as announce
use Rattle.bt_end.specs.declared.event.Event.{Event}
use Rattle.bt_end.specs.declared.event.Event.TheVariants as event
use Rattle.bt_serve.specs.Guests.{IsServer, is_nothing, is_serving}
use Rattle.bt_serve.specs.Services.{answer_to, count_if, is_rejecting, queued_by, saying, served_at}

-- ---- a part that serves

begun_same : (h : List ℕ) (p : Part) (size : Option ℕ) → is_serving p ≡ true → begun (assembly_of h p size) p ≡ p
begun_same h (Serving d) size s = refl
begun_same h other size s = absurd cc

block_same : (piece total : ℕ) (bytes : List ℕ) (p : Part) → is_serving p ≡ true → with_block piece total bytes p ≡ p
block_same piece total bytes (Serving d) s = refl
block_same piece total bytes other s = absurd cc

refused_same : (piece : ℕ) (p : Part) → is_serving p ≡ true → with_refused piece p ≡ p
refused_same piece (Serving d) s = refl
refused_same piece other s = absurd cc

none_wanted : (most : ℕ) (p : Part) → is_serving p ≡ true → all_wanted window most p ≡ []
none_wanted most (Serving d) s = refl
none_wanted most other s = absurd cc

no_block : (piece total : ℕ) (bytes : List ℕ) (p : Part) → is_serving p ≡ true → block_event piece total bytes p ≡ event.Other
no_block piece total bytes (Serving d) s = refl
no_block piece total bytes other s = absurd cc

no_reject : (piece : ℕ) (p : Part) → is_serving p ≡ true → reject_event piece p ≡ event.Other
no_reject piece (Serving d) s = refl
no_reject piece other s = absurd cc

-- ---- a reaction: it goes on serving, and the event tells how many messages are queued

pub record IsTellingOf (r : Reaction) (e : Event) : Type 0 where
  pub server : IsServer (saying (answer_to (belief r.end) e) r).end
  pub queued : length (saying (answer_to (belief r.end) e) r).queued ≡ queued_by (belief r.end) e

-- an event at which nothing is queued
quietly : (e : EndState) → IsServer e → IsTellingOf (quiet e) event.Other
quietly e s = record { server = s; queued = refl }

asked_by : (e : EndState) (t : Bool) → IsServer e
    → IsServer (if t then requesting e (all_wanted window e.window e.part) else quiet e).end
    × (length (if t then requesting e (all_wanted window e.window e.part) else quiet e).queued ≡ 0)
asked_by e false s = (s, refl)
asked_by e true s =
    let none = none_wanted e.window e.part s.part in (
      record {
        part = ap (λ (ks : List ℕ). is_serving (with_all_asked ks e.part)) none ∙ s.part;
        announce = s.announce;
      },
      ap (λ (ks : List ℕ). length (map request_for ks)) none,
    )

-- requests are queued, of which there are none
asked : (e : EndState) → IsServer e → IsServer (then_asked e).end × (length (then_asked e).queued ≡ 0)
asked e s = asked_by e (may_ask e) s

one_by : (c : Context) (piece : ℕ) (t : Bool) → queued_by c (if t then event.Served piece else event.Declined piece) ≡ 1
one_by c piece true = refl
one_by c piece false = refl

none_by : (c : Context) (piece : ℕ) (t : Bool) → answer_to c (if t then event.Served piece else event.Declined piece) ≡ None
none_by c piece true = refl
none_by c piece false = refl

served_one : (c : Context) (p : Part) (piece : ℕ) → is_serving p ≡ true
    → (queued_by c (answer_event p piece) ≡ 1) × (answer_to c (answer_event p piece) ≡ None)
served_one c (Serving d) piece s =
    let t = nat_lt piece (block_count (length d)) in
    (one_by c piece t, none_by c piece t)
served_one c other piece s = absurd cc

-- nothing is said at the event
unsaid : (r : Reaction) (e : Event) → answer_to (belief r.end) e ≡ None → IsServer r.end → length r.queued ≡ queued_by (belief r.end) e → IsTellingOf r e
unsaid r e none s q = record {
  server = subst (λ (o : Option Message). IsServer (saying o r).end) (sym none) s;
  queued = subst (λ (o : Option Message). length (saying o r).queued ≡ queued_by (belief r.end) e) (sym none) q;
}

request_tells : (e : EndState) (piece : ℕ) (t : Bool) → IsServer e
    → IsTellingOf (if t then queueing e (m.Extended (reply e.part piece) ∷ []) else quiet e) (if t then answer_event e.part piece else event.Other)
request_tells e piece false s = quietly e s
request_tells e piece true s =
    let r = queueing e (m.Extended (reply e.part piece) ∷ []) in
    let one = served_one (belief r.end) e.part piece s.part in
    unsaid r (answer_event e.part piece) one.1 (record { part = s.part; announce = s.announce }) (sym one.0)

-- an event at which nothing is queued, and an end that asks for nothing
still_tells : (x : EndState) (e : Event) → e ≡ event.Other → IsServer x → IsTellingOf (then_asked x) e
still_tells x e is s =
    let a = asked x s in
    subst (λ (y : Event). IsTellingOf (then_asked x) y) (sym is) (unsaid (then_asked x) event.Other refl a.0 a.1)

kind_tells : (e : EndState) (k : Kind) (rest : List ℕ) → IsServer e → IsTellingOf (by_kind e k rest) (kind_event e k rest)
kind_tells e (kind.Request piece) rest s = request_tells e piece (is_some (peer_id e)) s
kind_tells e (kind.Data piece total) rest s =
    still_tells (block_taken e piece total rest) (block_event piece total rest e.part) (no_block piece total rest e.part s.part) (record {
      part = ap is_serving (block_same piece total rest e.part s.part) ∙ s.part;
      announce = s.announce;
    })
kind_tells e (kind.Reject piece) rest s =
    still_tells (with_part e (with_refused piece e.part)) (reject_event piece e.part) (no_reject piece e.part s.part) (record {
      part = ap is_serving (refused_same piece e.part s.part) ∙ s.part;
      announce = s.announce;
    })
kind_tells e kind.Other rest s = quietly e s
kind_tells e kind.Malformed rest s = quietly e s

extended_tells : (e : EndState) (x : Ext) → IsServer e → IsTellingOf (at_extended e x) (extended_event e x)
extended_tells e (ext.Handshake dict rest) s =
    let t = tree_of dict in
    let y = learnt e t in
    let a = asked y (record { part = ap is_serving (begun_same e.handshake.info_hash e.part (size_of t) s.part) ∙ s.part; announce = s.announce }) in
    unsaid (then_asked y) (extended_event e (ext.Handshake dict rest)) refl a.0 a.1
extended_tells e (ext.Metadata dict rest) s = kind_tells e (kind_of (tree_of dict)) rest s
extended_tells e (ext.DontHave index) s = quietly e s
extended_tells e (ext.Raw id payload) s = quietly e s

-- a block of a piece is asked for
rejected_by : (e : EndState) (msg : Message) (t : Bool) → IsServer e → IsServer (saying (if t then Some msg else None) (quiet e)).end
    × (length (saying (if t then Some msg else None) (quiet e)).queued ≡ count_if t)
rejected_by e msg true s = (record { part = s.part; announce = s.announce }, refl)
rejected_by e msg false s = (s, refl)

rejected : (e : EndState) (i b n : ℕ) → IsServer e → IsTellingOf (quiet e) (event.Requested i b n)
rejected e i b n s =
    let x = rejected_by e (m.Reject i b n) (is_rejecting (belief e)) s in
    record { server = x.0; queued = x.1 }

message_tells : (e : EndState) (msg : Message) → IsServer e → IsTellingOf (at_message e msg) (message_event e msg)
message_tells e (m.Extended x) s = extended_tells e x s
message_tells e (m.Request i b n) s = rejected e i b n s
message_tells e (m.Piece i b bytes) s = record { server = s; queued = refl }
message_tells e other s = quietly e s

-- the order in which it receives says nothing of an event
abbrev receiving : Order → EndState → EndState
receiving o e = record e { receives = o }

same_kind : (e : EndState) (o : Order) (k : Kind) (rest : List ℕ) → kind_event (receiving o e) k rest ≡ kind_event e k rest
same_kind e o (kind.Request piece) rest = refl
same_kind e o (kind.Data piece total) rest = refl
same_kind e o (kind.Reject piece) rest = refl
same_kind e o kind.Other rest = refl
same_kind e o kind.Malformed rest = refl

same_extended : (e : EndState) (o : Order) (x : Ext) → extended_event (receiving o e) x ≡ extended_event e x
same_extended e o (ext.Handshake dict rest) = refl
same_extended e o (ext.Metadata dict rest) = same_kind e o (kind_of (tree_of dict)) rest
same_extended e o (ext.DontHave index) = refl
same_extended e o (ext.Raw id payload) = refl

same_message : (e : EndState) (o : Order) (msg : Message) → message_event (receiving o e) msg ≡ message_event e msg
same_message e o (m.Extended x) = same_extended e o x
same_message e o other = refl

-- the extended handshake, and what is announced
greeting_count : (x : Message) (a : Announce) (ext fast : Bool) → is_nothing a ≡ true →
    length ((if ext then x ∷ [] else []) ++ (if fast then announced a else [])) ≡ count_if ext + count_if fast
greeting_count x announce.Nothing true true s = refl
greeting_count x announce.Nothing true false s = refl
greeting_count x announce.Nothing false true s = refl
greeting_count x announce.Nothing false false s = refl
greeting_count x announce.All ext fast s = absurd cc
greeting_count x announce.Silent ext fast s = absurd cc

pub tells : (e : EndState) (item : Item) → IsServer e → IsTellingOf (react e item) (event_of e item)
tells e (items.Handshake h) s =
    let c = negotiated e.own h.reserved in
    record {
      server = record { part = s.part; announce = s.announce };
      queued = greeting_count (m.Extended (handshake_of e.own.reg (served_size e.part))) e.announce c.ext c.fast s.announce;
    }
tells e (items.Message msg) s =
    let o = order_after e.receives msg in
    let x = receiving o e in
    subst (λ (y : Event). IsTellingOf (at_message x msg) y) (same_message e o msg) (message_tells x msg (record { part = s.part; announce = s.announce }))

-- an item leaves an end that serves
pub server_at : (e : EndState) (item : Item) → IsServer e → IsServer (served_at e item).end
server_at e item s = (tells e item s).server

pub queued_of : (e : EndState) (item : Item) → IsServer e → length (served_at e item).queued ≡ queued_by (belief (react e item).end) (event_of e item)
queued_of e item s = (tells e item s).queued
