-- What is written of an item is a line, with the bytes of the item.
use Rattle.std.proofs.Common.{◌≡◌, ℕ, zero, suc, ◌+◌, ◌<◌, false, List, [], ◌∷◌, ◌++◌, length, Some, refl, ap, subst, arith}
use Rattle.std.specs.Prelude.{codes, unwrap_or}
use Rattle.hex.specs.Hex.{encode_lower}
use Rattle.hex.proofs.HexLemmas.{decode_of-encode_lower}
use Rattle.bt_ext.specs.Payloads.{ext_id, payload_of}
use Rattle.bt_ext.specs.declared.ids.Registered.{Registered}
use Rattle.bt_wire.specs.declared.context.Context.{Context}
use Rattle.bt_wire.specs.declared.context.Own.{Own}
use Rattle.bt_wire.specs.declared.ids.Needs.TheVariants.{Neither, Fast, Extension}
use Rattle.bt_wire.specs.declared.ids.Shape.TheVariants.{Nothing, Index, Part, Block, Port, Field, Extended}
use Rattle.bt_wire.specs.declared.ids.Turn.TheVariants.{Apart, Counted, Opening}
use Rattle.bt_wire.specs.declared.handshake.Handshake.{Handshake}
use Rattle.bt_wire.specs.Messages.{Message}
use Rattle.bt_wire.specs.declared.message.Message.TheVariants as m
use Rattle.bt_wire.specs.Handshakes.{hand, IsHandshake, protocol}
use Rattle.bt_wire.specs.Ids.{Id, id, ids, has_meaning, row_named}
use Rattle.bt_wire.specs.Messages.{Fields, none, index, part, block, port, field, extended, payload, spell_fields, spell, AreInRange, IsShaped, IsInRange}
use Rattle.bt_wire.specs.Numbers.{be32, be64, AreBytes}
use Rattle.bt_text.specs.Lines.{spaced, handshake_words}
use Rattle.bt_text.specs.Script.{hex_or_dash, spaced_hex, script_fields, script_message, SaysBytes, SaysSpaced, SaysFields, shape_of, framed_by}
use Rattle.bt_text.specs.Script.{known, unknown, keep_alive, IsMessageLine, IsHandshakeLine, HasHandshakeWords}

says_hex : (bytes : List ℕ) → AreBytes bytes → SaysBytes (hex_or_dash bytes) bytes
says_hex [] fits = refl
says_hex (x ∷ xs) fits = decode_of-encode_lower (x ∷ xs) fits

says_spaced : (bytes : List ℕ) → AreBytes bytes → SaysSpaced (spaced_hex bytes) bytes
says_spaced bytes fits = (hex_or_dash bytes, refl, says_hex bytes fits)

-- what is written of fields says them
says_fields : (f : Fields) → AreBytes (spell_fields f) → SaysFields (script_fields f) f
says_fields none fits = refl
says_fields (index i) fits = refl
says_fields (part i b l) fits = refl
says_fields (block i b bytes) fits = (spaced_hex bytes, refl, says_spaced bytes (λ k. fits (suc (suc (suc (suc (suc (suc (suc (suc k))))))))))
says_fields (port p) fits = refl
says_fields (field bits) fits = says_spaced bits fits
says_fields (extended n bytes) fits = (spaced_hex bytes, refl, says_spaced bytes (λ k. fits (suc k)))
says_fields (payload bytes) fits = says_spaced bytes fits

-- the bytes of an id and fields
abbrev spelled : ℕ → List ℕ → List ℕ
spelled n fields = be32 (length (n ∷ fields)) ++ (n ∷ fields)

spelled_framed : (n : ℕ) (fields : List ℕ) → spelled n fields ≡ framed_by n fields
spelled_framed n fields =
    let one_more : suc (length fields) ≡ 1 + length fields = omega arith in
    ap (λ (k : ℕ). be32 k ++ (n ∷ fields)) one_more

after_id : (n : ℕ) (fields : List ℕ) → AreBytes (spelled n fields) → AreBytes fields
after_id n fields fits = λ k. fits (suc (suc (suc (suc (suc k)))))

known_line : (i : Id) (f : Fields) → row_named i.name ids ≡ Some i → shape_of f ≡ Some i.kind.shape → AreInRange f
    → AreBytes (spelled i.number (spell_fields f))
    → IsMessageLine (i.name ++ script_fields f) (spelled i.number (spell_fields f))
known_line i f named shape range fits = (
  known i f,
  (i.name, script_fields f, refl, record { named = named; shape = shape; fields = range }, says_fields f (after_id i.number (spell_fields f) fits)),
  spelled_framed i.number (spell_fields f),
)

unknown_line : (n : ℕ) (bytes : List ℕ) → n < 256 → has_meaning n ≡ false → AreBytes (spelled n bytes)
    → IsMessageLine (codes "unknown" ++ (spaced n ++ spaced_hex bytes)) (spelled n bytes)
unknown_line n bytes small meaning fits = (
  unknown n bytes,
  (spaced_hex bytes, refl, small, meaning, says_spaced bytes (after_id n bytes fits)),
  spelled_framed n bytes,
)

pub message_line : (own : Own) (c : Context) (msg : Message) → c.reg ≡ own.reg → IsShaped c msg → IsInRange c msg → AreBytes (spell c msg)
    → IsMessageLine (script_message own msg) (spell c msg)
message_line own c m.KeepAlive same shaped range fits = (keep_alive, refl, refl)
message_line own c m.Choke same shaped range fits = known_line (id 0 (codes "choke") Nothing Neither Counted) none refl refl range.fields fits
message_line own c m.Unchoke same shaped range fits = known_line (id 1 (codes "unchoke") Nothing Neither Counted) none refl refl range.fields fits
message_line own c m.Interested same shaped range fits = known_line (id 2 (codes "interested") Nothing Neither Counted) none refl refl range.fields fits
message_line own c m.NotInterested same shaped range fits = known_line (id 3 (codes "not-interested") Nothing Neither Counted) none refl refl range.fields fits
message_line own c (m.Have i) same shaped range fits = known_line (id 4 (codes "have") Index Neither Counted) (index i) refl refl range.fields fits
message_line own c (m.Bitfield bits) same shaped range fits = known_line (id 5 (codes "bitfield") Field Neither Opening) (field bits) refl refl range.fields
    fits
message_line own c (m.Request i b l) same shaped range fits = known_line (id 6 (codes "request") Part Neither Counted) (part i b l) refl refl range.fields fits
message_line own c (m.Piece i b bytes) same shaped range fits = known_line (id 7 (codes "piece") Block Neither Counted) (block i b bytes) refl refl
    range.fields fits
message_line own c (m.Cancel i b l) same shaped range fits = known_line (id 8 (codes "cancel") Part Neither Counted) (part i b l) refl refl range.fields fits
message_line own c (m.Port p) same shaped range fits = known_line (id 9 (codes "port") Port Neither Apart) (port p) refl refl range.fields fits
message_line own c (m.Suggest i) same shaped range fits = known_line (id 13 (codes "suggest") Index Fast Counted) (index i) refl refl range.fields fits
message_line own c m.HaveAll same shaped range fits = known_line (id 14 (codes "have-all") Nothing Fast Opening) none refl refl range.fields fits
message_line own c m.HaveNone same shaped range fits = known_line (id 15 (codes "have-none") Nothing Fast Opening) none refl refl range.fields fits
message_line own c (m.Reject i b l) same shaped range fits = known_line (id 16 (codes "reject") Part Fast Counted) (part i b l) refl refl range.fields fits
message_line own c (m.AllowedFast i) same shaped range fits = known_line (id 17 (codes "allowed-fast") Index Fast Counted) (index i) refl refl range.fields fits
message_line own c (m.Extended e) same shaped range fits =
    subst (λ (reg : Registered). IsMessageLine (codes "extended" ++ script_fields (extended (unwrap_or (ext_id reg e) 0) (payload_of e)))
    (spell c (m.Extended e))) same
    (known_line (id 20 (codes "extended") Extended Extension Apart) (extended (unwrap_or (ext_id c.reg e) 0) (payload_of e)) refl refl range.fields fits)
message_line own c (m.Unknown n bytes) same shaped range fits = unknown_line n bytes range.id shaped fits

-- ---- handshakes

pub front_fits : (a b : List ℕ) → AreBytes (a ++ b) → AreBytes a
front_fits [] b fits k = omega arith
front_fits (x ∷ xs) b fits zero = fits 0
front_fits (x ∷ xs) b fits (suc k) = front_fits xs b (λ j. fits (suc j)) k

pub back_fits : (a b : List ℕ) → AreBytes (a ++ b) → AreBytes b
back_fits [] b fits = fits
back_fits (x ∷ xs) b fits = back_fits xs b (λ k. fits (suc k))

pub handshake_line : (h : Handshake) → IsHandshake h → AreBytes (hand h) → IsHandshakeLine (handshake_words h) (hand h)
handshake_line h is fits =
    let three = front_fits (protocol ++ be64 h.reserved.0 ++ h.info_hash) h.peer_id fits in
    let two = front_fits (protocol ++ be64 h.reserved.0) h.info_hash three in
    let reserved = back_fits protocol (be64 h.reserved.0) two in
    let info = back_fits (protocol ++ be64 h.reserved.0) h.info_hash three in
    let peer = back_fits (protocol ++ be64 h.reserved.0 ++ h.info_hash) h.peer_id fits in
    let words : HasHandshakeWords (handshake_words h) (encode_lower (be64 h.reserved.0)) (encode_lower h.info_hash) (encode_lower h.peer_id) h = record {
      parts = refl;
      reserved_bytes = decode_of-encode_lower (be64 h.reserved.0) reserved;
      info_bytes = decode_of-encode_lower h.info_hash info;
      peer_bytes = decode_of-encode_lower h.peer_id peer;
      fits = is;
    } in
    (h, (encode_lower (be64 h.reserved.0), encode_lower h.info_hash, encode_lower h.peer_id, words), refl)
