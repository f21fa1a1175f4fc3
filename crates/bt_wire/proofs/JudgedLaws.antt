-- Bytes that were judged before: which message or handshake they are.
use Rattle.std.proofs.Common.{◌≡◌, ℕ, ◌^◌, ◌≤◌, ◌<◌, Bool, true, false, List, [], ◌∷◌, ◌++◌, length, take, drop, Option, Some, None, refl, sym, ap, subst}
use Rattle.std.proofs.Common.{◌∙◌, arith}
use Rattle.std.specs.Prelude.{unwrap_or, nat_le}
use Rattle.std.proofs.lemmas.List.{append-nil}
use Rattle.bt_ext.specs.declared.ext.Ext.{Ext}
use Rattle.bt_ext.specs.declared.ids.Rules.TheVariants.{Free}
use Rattle.bt_ext.specs.Payloads.{IsExt, HasSpelling, ext_id, payload_of}
use Rattle.bt_wire.specs.declared.context.Context.{Context}
use Rattle.bt_wire.specs.declared.context.Order.{Order}
use Rattle.bt_wire.specs.declared.context.Own.{Own}
use Rattle.bt_wire.specs.declared.fault.Reason.TheVariants.{BadProtocol, WrongInfoHash}
use Rattle.bt_wire.specs.declared.handshake.Handshake.{Handshake}
use Rattle.bt_wire.specs.declared.message.Message.TheVariants as m
use Rattle.bt_wire.specs.Numbers.{be64, AreBytes}
use Rattle.bt_wire.specs.Messages.{Message, body, id_of, spell, IsShaped}
use Rattle.bt_wire.specs.Tables.{row, first_fault}
use Rattle.bt_wire.specs.Faults.{said_length, said_id, header_fault, is_extended, said_ext_id, said_payload, allows, size_of}
use Rattle.bt_wire.specs.Handshakes.{hand, hand_fault, IsHandshake}
use Rattle.bt_wire.specs.Headers.{IsWindow, IsRead}
use Rattle.bt_wire.specs.Legal.{IsSaid}
use Rattle.bt_wire.specs.Parts.{made}
use Rattle.bt_wire.proofs.HandLaws.{hand-length, hand_parts, one_handshake}
use Rattle.bt_wire.proofs.SpellLaws.{fits, length-spell, said_length-spell, one_body, none_begins, ext_of, ext_is, spelled_ext}
use Rattle.bt_wire.proofs.WindowLaws.{sized, fields_found, keep_alive_read, extended_long, extended_there, header-spell, plain_spell}

-- ---- a spelling of a message that may be sent is a window

spelled_window : (c : Context) (o : Order) (msg : Message) → c.limit < 2 ^ 32 → IsSaid c o 0 msg → IsWindow c o (spell c msg)
spelled_window c o msg lt said =
    let w = spell c msg in
    let short = fits c o 0 msg lt said in
    let says : said_length w ≡ length (body c msg) = ap said_length (sym (append-nil w)) ∙ said_length-spell c msg [] short in
    record {
      long = omega (arith, length-spell c msg);
      exact = omega (arith, says, length-spell c msg);
      header = ap (header_fault c o) (sym (append-nil w)) ∙ header-spell c o msg [] lt said.legal;
    }

pub read_window : (c : Context) (o : Order) (w : List ℕ) (msg : Message) → c.limit < 2 ^ 32 → IsRead c o w msg → IsWindow c o w
read_window c o w msg lt r = subst (IsWindow c o) r.spelled (spelled_window c o msg lt r.said)

-- its id has a length that the rules allow
pub read_sized : (c : Context) (o : Order) (w : List ℕ) (msg : Message) → c.limit < 2 ^ 32 → IsRead c o w msg → 5 ≤ length w
    → allows (size_of c (said_id w)) (said_length w) ≡ true
read_sized c o w msg lt r long = sized c o w (read_window c o w msg lt r) long

-- ---- which message it is

pub keep_alive_is : (c : Context) (o : Order) (w : List ℕ) (msg : Message) → AreBytes w → c.limit < 2 ^ 32 → IsRead c o w msg → said_length w ≡ 0
    → ◌≡◌ {A = Message} m.KeepAlive msg
keep_alive_is c o w msg bytes lt r e =
    let k = keep_alive_read c o w bytes (read_window c o w msg lt r) e in
    (none_begins [] [] lt k.said r.said (append-nil (spell c m.KeepAlive) ∙ k.spelled ∙ sym r.spelled ∙ sym (append-nil (spell c msg)))).0

pub plain_is : (c : Context) (o : Order) (w : List ℕ) (msg : Message) → AreBytes w → c.limit < 2 ^ 32 → IsRead c o w msg → 5 ≤ length w
    → (said_id w ≡ 20 → ⊥) → made (said_id w) (drop 5 w) ≡ msg
plain_is c o w msg bytes lt r long plain =
    let f = fields_found c o w bytes (read_window c o w msg lt r) long plain in
    one_body c (made (said_id w) (drop 5 w)) msg f.its_part.shaped f.its_part.in_range r.said.legal.shaped r.said.in_range (ap (drop 4) (f.spelled
    ∙ sym r.spelled))

-- the extended value of an extended message
pub record IsOf (c : Context) (w : List ℕ) (msg : Message) : Type 0 where
  pub value : Ext
  pub same : msg ≡ m.Extended value
  pub is : IsExt c.reg value (said_ext_id w) (said_payload w)

value_of : (c : Context) (o : Order) (w : List ℕ) (msg : Message) (x : Option Ext) → c.limit < 2 ^ 32 → IsRead c o w msg → 5 ≤ length w → said_id w ≡ 20
    → ext_of msg ≡ x → IsOf c w msg
value_of c o w msg None lt r long twenty h =
    let none : is_extended w ≡ false = ap is_extended (sym r.spelled) ∙ plain_spell c msg (id_of msg) r.said.legal.shaped (fits c o 0 msg lt r.said) h refl in
    let some : is_extended w ≡ true = extended_there c o w (read_window c o w msg lt r) long twenty in
    absurd cc
value_of c o w msg (Some e) lt r long twenty h =
    let same : msg ≡ m.Extended e = ext_is msg e h in
    let P : Message → Type 0 = λ x. IsShaped c x in
    let shaped : HasSpelling c.reg e = subst P same r.said.legal.shaped in
    let spelled : spell c (m.Extended e) ≡ w = ap (spell c) (sym same) ∙ r.spelled in
    let id : unwrap_or (ext_id c.reg e) 0 ≡ said_ext_id w = ap said_ext_id spelled in
    let bytes : payload_of e ≡ said_payload w = ap said_payload spelled in
    let Q : ℕ → Type 0 = λ n. IsExt c.reg e n (said_payload w) in
    let R : List ℕ → Type 0 = λ p. IsExt c.reg e (unwrap_or (ext_id c.reg e) 0) p in
    record { value = e; same = same; is = subst Q id (subst R bytes (spelled_ext c.reg e shaped)) }

pub extended_is : (c : Context) (o : Order) (w : List ℕ) (msg : Message) → c.limit < 2 ^ 32 → IsRead c o w msg → 5 ≤ length w → said_id w ≡ 20
    → IsOf c w msg
extended_is c o w msg lt r long twenty = value_of c o w msg (ext_of msg) lt r long twenty refl

-- ---- which handshake they are

-- an end that accepts each info hash
any : Own
any = record { reserved = record { 0 = 0 }; info_hash = None; pieces = None; reg = record { metadata = None; donthave = None }; rules = Free; limit = 1 }

quiet : (b : Bool) → first_fault (row BadProtocol 0 true false ∷ row WrongInfoHash 28 b false ∷ []) ≡ None
quiet true = refl
quiet false = refl

no_fault : (h : Handshake) → hand_fault any (hand h) ≡ None
unfolding hand_fault any
no_fault h = quiet (nat_le 48 (length (hand h)))

pub same_handshake : (b : List ℕ) (g h : Handshake) → g.reserved.0 < 2 ^ 64 → be64 g.reserved.0 ≡ take 8 (drop 20 b) → g.info_hash ≡ take 20 (drop 28 b)
    → g.peer_id ≡ take 20 (drop 48 b) → IsHandshake h → b ≡ hand h → g ≡ h
same_handshake b g h small reserved info peer is e =
    let none : hand_fault any b ≡ None = ap (hand_fault any) e ∙ no_fault h in
    let long : 68 ≤ length b = omega (arith, ap (length {A = ℕ}) e, hand-length h is) in
    let p = hand_parts any b g none long small reserved info peer in
    (one_handshake g h (drop 68 b) [] p.fits is (sym p.parts ∙ e ∙ sym (append-nil (hand h)))).0

pub handshake_long : (b : List ℕ) (h : Handshake) → IsHandshake h → b ≡ hand h → 68 ≤ length b
handshake_long b h is e = omega (arith, ap (length {A = ℕ}) e, hand-length h is)
