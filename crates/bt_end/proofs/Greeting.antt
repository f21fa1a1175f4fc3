-- What an end says first: its extended handshake, and then what is announced.
use Rattle.std.proofs.Common.{◌≡◌, ℕ, ◌+◌, ◌≤◌, Bool, true, false, if◌then◌else◌, List, [], ◌∷◌, ◌++◌, length, refl, sym, ap, ◌∙◌, arith}
use Rattle.std.proofs.Common.{length-append, append_assoc}
use Rattle.bt_bencode.specs.Bencoding.{ben}
use Rattle.bt_ext.specs.Made.{handshake_of, handshake_tree}
use Rattle.bt_ext.specs.Payloads.{payload_of}
use Rattle.bt_wire.specs.declared.context.Context.{Context}
use Rattle.bt_wire.specs.declared.context.Order.{Order}
use Rattle.bt_wire.specs.declared.message.Message.TheVariants as m
use Rattle.bt_wire.specs.Messages.{Message, spell}
use Rattle.bt_wire.specs.Numbers.{be32}
use Rattle.bt_end.specs.declared.config.Announce.{Announce}
use Rattle.bt_end.specs.declared.config.Announce.TheVariants.{Silent, All, Nothing}
use Rattle.bt_end.specs.declared.reactor.Reactor.{Reactor}
use Rattle.bt_end.specs.Ends.{EndState, belief, spelled, queueing, orders_after, served_size, announced, opened, greeted}
use Rattle.bt_end.specs.Parts.{framed}
use Rattle.bt_end.specs.Reactors.{end_of, IsReacted}

abbrev first : EndState → Message
first e = m.Extended (handshake_of e.own.reg (served_size e.part))

first_bytes : (c : Context) (e : EndState) → framed 0 (ben (handshake_tree e.own.reg (served_size e.part)) ++ []) ≡ spell c (first e)
first_bytes c e =
    let bytes : List ℕ = payload_of (handshake_of e.own.reg (served_size e.part)) in
    let long : 2 + length bytes ≡ length (20 ∷ 0 ∷ bytes) = omega arith in
    ap (λ (n : ℕ). be32 n ++ 20 ∷ 0 ∷ bytes) long

announced_length : (e : EndState) (w : Announce) → length (spelled e (announced w)) ≤ 5
announced_length e Silent = omega arith
announced_length e All = omega arith
announced_length e Nothing = omega arith

abbrev introduced : Bool → EndState → List ℕ
introduced true e = framed 0 (ben (handshake_tree e.own.reg (served_size e.part)) ++ [])
introduced false e = []

-- what is sent after an extended handshake, or without one
all_bytes : (e : EndState) (known : Bool) → introduced known e ++ spelled e (announced e.announce)
    ≡ spelled e ((if known then first e ∷ [] else []) ++ announced e.announce)
all_bytes e true = ap (λ (xs : List ℕ). xs ++ spelled e (announced e.announce)) (first_bytes (belief e) e)
all_bytes e false = refl

order_kept : (e : EndState) (known : Bool) → orders_after e.sends (announced e.announce)
    ≡ orders_after e.sends ((if known then first e ∷ [] else []) ++ announced e.announce)
order_kept e true = refl
order_kept e false = refl

pub greeted_all : {A : Type 0} → (old mid new : Reactor A) (c : Context) (known : Bool) → c.ext ≡ known → c.fast ≡ true
    → end_of mid ≡ opened (end_of old) c → mid.outbox.bytes ≡ old.outbox.bytes ++ introduced known (opened (end_of old) c)
    → length mid.outbox.bytes ≤ length old.outbox.bytes + 226
    → IsReacted mid new (queueing (end_of mid) (announced mid.announce)) → IsReacted old new (greeted (end_of old) c)
greeted_all old mid new c known ext fast same bytes short r =
    let e : EndState = opened (end_of old) c in
    let all : List Message = (if known then first e ∷ [] else []) ++ announced e.announce in
    let greeting : (if c.ext then first e ∷ [] else []) ++ (if c.fast then announced e.announce else []) ≡ all = rw (ext, fast) refl in
    let end : end_of new ≡ record e { sends = orders_after e.sends all } =
    r.end ∙ ap (λ (s : EndState). record s { sends = orders_after s.sends (announced s.announce) }) same
    ∙ ap (λ (o : Order). record e { sends = o }) (order_kept e known) in
    let after : new.outbox.bytes ≡ mid.outbox.bytes ++ spelled e (announced e.announce) =
    r.queued ∙ ap (λ (s : EndState). mid.outbox.bytes ++ spelled s (announced s.announce)) same in
    let queued : new.outbox.bytes ≡ old.outbox.bytes ++ spelled e all =
    after ∙ ap (λ (xs : List ℕ). xs ++ spelled e (announced e.announce)) bytes
    ∙ append_assoc old.outbox.bytes (introduced known e) (spelled e (announced e.announce))
    ∙ ap (λ (xs : List ℕ). old.outbox.bytes ++ xs) (all_bytes e known) in
    record {
      end = end ∙ ap (λ (xs : List Message). record e { sends = orders_after e.sends xs }) (sym greeting);
      queued = queued ∙ ap (λ (xs : List Message). old.outbox.bytes ++ spelled e xs) (sym greeting);
      bound = omega (arith, ap (length {A = ℕ}) after, length-append mid.outbox.bytes (spelled e (announced e.announce)), announced_length e e.announce, short);
    }
