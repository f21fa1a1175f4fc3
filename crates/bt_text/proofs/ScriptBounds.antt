-- How long the words of an item are, and that they hold no line feed.
use Rattle.std.proofs.Common.{◌≡◌, ℕ, zero, suc, ◌+◌, ◌*◌, ◌/◌, ◌%◌, ◌<◌, ◌≤◌, ◌^◌, ◌==◌, ◌||◌, Bool, false, List, [], ◌∷◌, ◌++◌, length, get_or, refl}
use Rattle.std.proofs.Common.{subst, arith}
use Rattle.std.specs.Prelude.{codes, unwrap_or}
use Rattle.std.specs.Fmt.{decimal}
use Rattle.std.specs.Int.{IsInRange as IsBetween}
use Rattle.std.proofs.lemmas.Fmt.{digits_decimal, length-decimal-le}
use Rattle.std.proofs.lemmas.List.{length-append}
use Rattle.hex.specs.Hex.{encode_with, encode_lower, lower_digits}
use Rattle.hex.proofs.HexLemmas.{length-encode_with}
use Rattle.bt_ext.specs.Payloads.{ext_id, payload_of}
use Rattle.bt_ext.specs.declared.ids.Registered.{Registered}
use Rattle.bt_wire.specs.declared.context.Context.{Context}
use Rattle.bt_wire.specs.declared.context.Own.{Own}
use Rattle.bt_wire.specs.declared.handshake.Handshake.{Handshake}
use Rattle.bt_wire.specs.Messages.{Message}
use Rattle.bt_wire.specs.declared.message.Message.TheVariants as m
use Rattle.bt_wire.specs.Handshakes.{IsHandshake}
use Rattle.bt_wire.specs.Messages.{Fields, none, index, part, block, port, field, extended, payload, spell_fields, body, AreInRange, IsInRange}
use Rattle.bt_wire.specs.Numbers.{be64}
use Rattle.bt_text.specs.Lines.{spaced, handshake_words}
use Rattle.bt_text.specs.Script.{spaced_hex, script_fields, script_message}
use Rattle.bt_text.specs.Script.{has_feed}
use Rattle.bt_text.specs.ScriptLaws.{IsFitLine}
use Rattle.bt_text.proofs.ScriptWords.{AreDigits, own}

-- ---- no line feed

either : (x y : Bool) → x ≡ false → y ≡ false → (x || y) ≡ false
either x y e f = rw (e, f) refl

pub has_feed-append : (a b : List ℕ) → has_feed a ≡ false → has_feed b ≡ false → has_feed (a ++ b) ≡ false
has_feed-append [] b h k = k
has_feed-append (c ∷ cs) b h k = grind (arith, has_feed-append cs b)

digits_have_none : (w : List ℕ) → AreDigits w → has_feed w ≡ false
digits_have_none [] h = refl
digits_have_none (c ∷ cs) h =
    let first : IsBetween 48 57 c = h 0 (omega arith) in
    let e : (c == 10) ≡ false = grind arith in
    either (c == 10) (has_feed cs) e (digits_have_none cs (λ i lt. h (suc i) (omega arith)))

spaced_has_none : (n : ℕ) → n < 2 ^ 32 → has_feed (spaced n) ≡ false
spaced_has_none n lt = digits_have_none (decimal n) (digits_decimal own n (omega arith))

index_has_none : (t : List ℕ) (k : ℕ) → has_feed t ≡ false → (get_or t k 0 == 10) ≡ false
index_has_none [] k h = refl
index_has_none (c ∷ cs) zero h = grind arith
index_has_none (c ∷ cs) (suc k) h = index_has_none cs k (grind arith)

hex_has_none : (bytes : List ℕ) → has_feed (encode_lower bytes) ≡ false
unfolding encode_with
hex_has_none [] = refl
hex_has_none (x ∷ xs) =
    either _ _ (index_has_none lower_digits (x / 16) refl) (either _ _ (index_has_none lower_digits (x % 16) refl) (hex_has_none xs))

dash_has_none : (bytes : List ℕ) → has_feed (spaced_hex bytes) ≡ false
dash_has_none [] = refl
dash_has_none (x ∷ xs) = hex_has_none (x ∷ xs)

pub fields_have_none : (f : Fields) → AreInRange f → has_feed (script_fields f) ≡ false
fields_have_none none range = refl
fields_have_none (index i) range = spaced_has_none i range
fields_have_none (part i b l) range =
    has_feed-append (spaced i) (spaced b ++ spaced l) (spaced_has_none i range.0) (has_feed-append (spaced b) (spaced l) (spaced_has_none b range.1)
    (spaced_has_none l range.2))
fields_have_none (block i b bytes) range =
    has_feed-append (spaced i) (spaced b ++ spaced_hex bytes) (spaced_has_none i range.0)
    (has_feed-append (spaced b) (spaced_hex bytes) (spaced_has_none b range.1) (dash_has_none bytes))
fields_have_none (port p) range = spaced_has_none p (omega arith)
fields_have_none (field bits) range = dash_has_none bits
fields_have_none (extended n bytes) range = has_feed-append (spaced n) (spaced_hex bytes) (spaced_has_none n (omega arith)) (dash_has_none bytes)
fields_have_none (payload bytes) range = dash_has_none bytes

-- ---- lengths

pub length-spaced : (n : ℕ) → n < 2 ^ 32 → length (spaced n) ≤ 11
length-spaced n lt = omega (arith, length-decimal-le 10 n (omega arith) (omega arith) (omega arith))

length-spaced_hex : (bytes : List ℕ) → length (spaced_hex bytes) ≤ 2 * length bytes + 2
length-spaced_hex [] = omega arith
length-spaced_hex (x ∷ xs) = omega (arith, length-encode_with lower_digits (x ∷ xs))

-- the numbers and the bytes
pub length-two : (i b : ℕ) (rest : List ℕ) → i < 2 ^ 32 → b < 2 ^ 32 → length (spaced i ++ (spaced b ++ rest)) ≤ 22 + length rest
length-two i b rest li lb =
    omega (arith, length-append (spaced i) (spaced b ++ rest), length-append (spaced b) rest, length-spaced i li, length-spaced b lb)

length-script_fields : (f : Fields) → AreInRange f → length (script_fields f) ≤ 2 * length (spell_fields f) + 40
length-script_fields none range = omega arith
length-script_fields (index i) range = omega (arith, length-spaced i range)
length-script_fields (part i b l) range = omega (arith, length-two i b (spaced l) range.0 range.1, length-spaced l range.2)
length-script_fields (block i b bytes) range = omega (arith, length-two i b (spaced_hex bytes) range.0 range.1, length-spaced_hex bytes)
length-script_fields (port p) range = omega (arith, length-spaced p (omega arith))
length-script_fields (field bits) range = omega (arith, length-spaced_hex bits)
length-script_fields (extended n bytes) range =
    omega (arith, length-append (spaced n) (spaced_hex bytes), length-spaced n (omega arith), length-spaced_hex bytes)
length-script_fields (payload bytes) range = omega (arith, length-spaced_hex bytes)

-- ---- messages

named_fits : (name : List ℕ) (n : ℕ) (f : Fields) → length name ≤ 30 → has_feed name ≡ false → AreInRange f
    → IsFitLine (name ++ script_fields f) (length (n ∷ spell_fields f))
named_fits name n f short whole range = record {
  short = omega (arith, length-append name (script_fields f), length-script_fields f range);
  whole = has_feed-append name (script_fields f) whole (fields_have_none f range);
}

unknown_fits : (n : ℕ) (bytes : List ℕ) → n < 256 → IsFitLine (codes "unknown" ++ (spaced n ++ spaced_hex bytes)) (length (n ∷ bytes))
unknown_fits n bytes lt = record {
  short = omega (arith, length-append (spaced n) (spaced_hex bytes), length-spaced n (omega arith), length-spaced_hex bytes);
  whole = has_feed-append (spaced n) (spaced_hex bytes) (spaced_has_none n (omega arith)) (dash_has_none bytes);
}

pub message_fits : (own : Own) (c : Context) (msg : Message) → c.reg ≡ own.reg → IsInRange c msg → IsFitLine (script_message own msg) (length (body c msg))
message_fits own c m.KeepAlive same range = record { short = omega arith; whole = refl }
message_fits own c m.Choke same range = named_fits (codes "choke") 0 none (omega arith) refl range.fields
message_fits own c m.Unchoke same range = named_fits (codes "unchoke") 1 none (omega arith) refl range.fields
message_fits own c m.Interested same range = named_fits (codes "interested") 2 none (omega arith) refl range.fields
message_fits own c m.NotInterested same range = named_fits (codes "not-interested") 3 none (omega arith) refl range.fields
message_fits own c (m.Have i) same range = named_fits (codes "have") 4 (index i) (omega arith) refl range.fields
message_fits own c (m.Bitfield bits) same range = named_fits (codes "bitfield") 5 (field bits) (omega arith) refl range.fields
message_fits own c (m.Request i b l) same range = named_fits (codes "request") 6 (part i b l) (omega arith) refl range.fields
message_fits own c (m.Piece i b bytes) same range = named_fits (codes "piece") 7 (block i b bytes) (omega arith) refl range.fields
message_fits own c (m.Cancel i b l) same range = named_fits (codes "cancel") 8 (part i b l) (omega arith) refl range.fields
message_fits own c (m.Port p) same range = named_fits (codes "port") 9 (port p) (omega arith) refl range.fields
message_fits own c (m.Suggest i) same range = named_fits (codes "suggest") 13 (index i) (omega arith) refl range.fields
message_fits own c m.HaveAll same range = named_fits (codes "have-all") 14 none (omega arith) refl range.fields
message_fits own c m.HaveNone same range = named_fits (codes "have-none") 15 none (omega arith) refl range.fields
message_fits own c (m.Reject i b l) same range = named_fits (codes "reject") 16 (part i b l) (omega arith) refl range.fields
message_fits own c (m.AllowedFast i) same range = named_fits (codes "allowed-fast") 17 (index i) (omega arith) refl range.fields
message_fits own c (m.Extended e) same range =
    subst (λ (reg : Registered). IsFitLine (codes "extended" ++ script_fields (extended (unwrap_or (ext_id reg e) 0) (payload_of e)))
    (length (body c (m.Extended e)))) same
    (named_fits (codes "extended") 20 (extended (unwrap_or (ext_id c.reg e) 0) (payload_of e)) (omega arith) refl range.fields)
message_fits own c (m.Unknown n bytes) same range = unknown_fits n bytes range.id

-- ---- handshakes

length-hex : (bytes : List ℕ) → length (encode_lower bytes) ≡ 2 * length bytes
length-hex bytes = length-encode_with lower_digits bytes

pub handshake_fits : (h : Handshake) → IsHandshake h → IsFitLine (handshake_words h) 0
handshake_fits h is =
    let r = encode_lower (be64 h.reserved.0) in
    let i = encode_lower h.info_hash in
    let p = encode_lower h.peer_id in
    record {
      short = omega (
        arith,
        length-append r (codes " " ++ (i ++ (codes " " ++ p))),
        length-append i (codes " " ++ p),
        length-hex (be64 h.reserved.0),
        length-hex h.info_hash,
        length-hex h.peer_id,
        is.info_hash,
        is.peer_id,
      );
      whole = has_feed-append r (codes " " ++ (i ++ (codes " " ++ p))) (hex_has_none (be64 h.reserved.0))
          (has_feed-append i (codes " " ++ p) (hex_has_none h.info_hash) (hex_has_none h.peer_id));
    }
