-- The lines that are read are those that are said, with the same bytes.
use Rattle.std.proofs.Common.{◌≡◌, ℕ, ◌<◌, ◌^◌, ◌==◌, Bool, true, false, cond, not, ◌&&◌, List, [], ◌∷◌, ◌++◌, length, Some, None, Result, Ok, Err, refl}
use Rattle.std.proofs.Common.{sym, ap, subst, ◌∙◌, arith, inl, inr}
use Rattle.std.specs.Prelude.{codes, option_map, option_and_then, nat_lt, IfOk}
use Rattle.std.specs.Int.{w64, from_be_bytes}
use Rattle.std.specs.List.{list_all, AllPass}
use Rattle.std.specs.Result.{result_ok}
use Rattle.std.specs.Str.{bytes_eq}
use Rattle.std.proofs.lemmas.Bool.{cases_Bool, and_parts, and_from, ltb-true, lt-ltb, not-true, not_from_false}
use Rattle.std.proofs.lemmas.List.{append-nil}
use Rattle.std.proofs.lemmas.List.Elements.{All-head, All-tail}
use Rattle.std.proofs.lemmas.Nat.{be_bytes_8}
use Rattle.std.proofs.lemmas.Slice.Eq.{bytes_eq-Decides}
use Rattle.hex.specs.Hex.{IsBytes, decode_of, decode_sized, is_hex_digit}
use Rattle.hex.proofs.HexLemmas.{decode_of-ok, decode_sized-ok, decode_sized-twice}
use Rattle.bt_wire.specs.declared.handshake.Handshake.{Handshake}
use Rattle.bt_wire.specs.Handshakes.{hand, IsHandshake}
use Rattle.bt_wire.specs.Ids.{Id, ids, has_meaning, row_named}
use Rattle.bt_wire.specs.Messages.{Fields, spell_fields}
use Rattle.bt_wire.specs.Numbers.{be32, be64}
use Rattle.bt_text.specs.Lines.{spaced}
use Rattle.bt_text.specs.Script.{has_no_space, SaysSpaced, SaysFields, IsOfRow, Said, keep_alive, known, unknown, Says, framed_by, said_bytes, IsMessageLine}
use Rattle.bt_text.specs.Script.{HasHandshakeWords, IsHandshakeLine, IsLine, IsAnswer, IsAdded}
use Rattle.bt_text.specs.ScriptReading.{word_of, after_word, number_following, with_bytes, fields_in, payload_in, unknown_in, row_in_text, message_in}
use Rattle.bt_text.specs.ScriptReading.{array_after, peer_in, info_in, handshake_in, bytes_of_parts, closed, line_in, Adds}
use Rattle.bt_text.proofs.ScriptWords.{Stops, word-parts, word_of-append, after_word-append}
use Rattle.bt_text.proofs.ScriptFields.{ok_of, option_map-Some, option_and_then-Some, closed-Some, is_space, number_following-Some, pair, number_following-spaced}
use Rattle.bt_text.proofs.ScriptFields.{with_bytes-Some, with_bytes-says, Stops-says, fields_in-Some, fields_in-says, Stops-fields}

same_text : (a b : List ℕ) → bytes_eq a b ≡ true → a ≡ b
same_text a b e = (bytes_eq-Decides a b).0 e

-- ---- a message that is read is said

record HasPayload (n : ℕ) (text bytes : List ℕ) : Type 0 where
  small : n < 256
  unknown_id : has_meaning n ≡ false
  payload : List ℕ
  says : SaysSpaced text payload
  same : framed_by n payload ≡ bytes

payload_if : (n : ℕ) (text bytes : List ℕ) (small meant : Bool) → nat_lt n 256 ≡ small → has_meaning n ≡ meant
    → (cond (small && not meant) (option_map (framed_by n) (with_bytes [] text)) None) ≡ Some bytes → HasPayload n text bytes
payload_if n text bytes true false small meaning h =
    let m = option_map-Some (framed_by n) (with_bytes [] text) bytes h in
    let w = with_bytes-Some [] text m.from m.was in
    record { small = ltb-true n 256 small; unknown_id = meaning; payload = w.bytes; says = w.says; same = ap (framed_by n) w.same ∙ m.gives }
payload_if n text bytes true true small meaning h = absurd cc
payload_if n text bytes false meant small meaning h = absurd cc

unknown_read : (text bytes : List ℕ) → word_of text ≡ codes "unknown" → unknown_in (after_word text) ≡ Some bytes → IsMessageLine text bytes
unknown_read text bytes name h =
    let c = option_and_then-Some payload_in (number_following (after_word text)) bytes h in
    let n = number_following-Some (after_word text) c.from c.was in
    let p = payload_if c.from.0 c.from.1 bytes (nat_lt c.from.0 256) (has_meaning c.from.0) refl refl c.gives in
    let parts : text ≡ codes "unknown" ++ (spaced c.from.0 ++ c.from.1) =
    sym (word-parts text) ∙ ap (λ (x : List ℕ). x ++ after_word text) name ∙ ap (λ (x : List ℕ). codes "unknown" ++ x) n.text_is in
    (unknown c.from.0 p.payload, (c.from.1, parts, p.small, p.unknown_id, p.says), sym p.same)

known_read : (text bytes : List ℕ) → option_and_then (row_in_text (after_word text)) (row_named (word_of text) ids) ≡ Some bytes → IsMessageLine text bytes
known_read text bytes h =
    let c = option_and_then-Some (row_in_text (after_word text)) (row_named (word_of text) ids) bytes h in
    let m = option_map-Some (framed_by c.from.number) (fields_in c.from.kind.shape (after_word text)) bytes c.gives in
    let f = fields_in-Some c.from.kind.shape (after_word text) m.from m.was in (
      known c.from f.0,
      (word_of text, after_word text, sym (word-parts text), record { named = c.was; shape = f.1.shape; fields = f.1.in_range }, f.1.says),
      sym m.gives ∙ ap (framed_by c.from.number) f.1.spelled,
    )

some_is : (a b : List ℕ) → Some a ≡ Some b → b ≡ a
some_is a b e = cc e

message_if : (text bytes : List ℕ) (alive named : Bool) → bytes_eq text (codes "keep-alive") ≡ alive → bytes_eq (word_of text) (codes "unknown") ≡ named
    → (cond alive (Some (be32 0)) (cond named (unknown_in (after_word text))
    (option_and_then (row_in_text (after_word text)) (row_named (word_of text) ids)))) ≡ Some bytes → IsMessageLine text bytes
message_if text bytes true named a u h = (keep_alive, same_text text (codes "keep-alive") a, some_is (be32 0) bytes h)
message_if text bytes false true a u h = unknown_read text bytes (same_text (word_of text) (codes "unknown") u) h
message_if text bytes false false a u h = known_read text bytes h

pub message_in-Some : (text bytes : List ℕ) → message_in text ≡ Some bytes → IsMessageLine text bytes
message_in-Some text bytes h = message_if text bytes (bytes_eq text (codes "keep-alive")) (bytes_eq (word_of text) (codes "unknown")) refl refl h

-- ---- a message that is said is read

-- the name of a row is one word, and another than those without a row
abbrev is_row_name : List ℕ → Bool
is_row_name name = has_no_space name && (not (bytes_eq name (codes "unknown")) && not (bytes_eq name (codes "keep-alive")))

row_name_if : (name : List ℕ) (i j : Id) (is : List Id) (b : Bool) → bytes_eq name j.name ≡ b → (row_named name is ≡ Some i → is_row_name name ≡ true)
    → is_row_name j.name ≡ true → cond b (Some j) (row_named name is) ≡ Some i → is_row_name name ≡ true
row_name_if name i j is true e more here h = rw (same_text name j.name e) here
row_name_if name i j is false e more here h = more h

row_name : (is : List Id) (name : List ℕ) (i : Id) → list_all (λ (j : Id). is_row_name j.name) is ≡ true → row_named name is ≡ Some i → is_row_name name ≡ true
row_name [] name i all h = absurd cc
row_name (j ∷ is) name i all h =
    let p = and_parts (is_row_name j.name) (list_all (λ (j : Id). is_row_name j.name) is) all in
    row_name_if name i j is (bytes_eq name j.name) refl (row_name is name i p.1) p.0 h

record IsRowName (name : List ℕ) : Type 0 where
  free : has_no_space name ≡ true
  no_unknown : bytes_eq name (codes "unknown") ≡ false
  no_alive : bytes_eq name (codes "keep-alive") ≡ false

row_name_is : (name : List ℕ) (i : Id) → row_named name ids ≡ Some i → IsRowName name
row_name_is name i h =
    let p = and_parts (has_no_space name) (not (bytes_eq name (codes "unknown")) && not (bytes_eq name (codes "keep-alive"))) (row_name ids name i refl h) in
    let q = and_parts (not (bytes_eq name (codes "unknown"))) (not (bytes_eq name (codes "keep-alive"))) p.1 in
    record { free = p.0; no_unknown = not-true _ q.0; no_alive = not-true _ q.1 }

-- where the first word isn't `keep-alive`, the text isn't
not_alive : (text name : List ℕ) (b : Bool) → word_of text ≡ name → bytes_eq name (codes "keep-alive") ≡ false → bytes_eq text (codes "keep-alive") ≡ b → b
    ≡ false
not_alive text name false word other e = refl
not_alive text name true word other e =
    let whole : text ≡ codes "keep-alive" = same_text text (codes "keep-alive") e in
    let first : name ≡ codes "keep-alive" = sym word ∙ ap word_of whole in
    absurd (let k : true ≡ false = rw first at other in cc k)

known_said : (text name rest : List ℕ) (i : Id) (f : Fields) → text ≡ name ++ rest → IsOfRow name i f → SaysFields rest f → message_in text
    ≡ Some (framed_by i.number (spell_fields f))
known_said text name rest i f parts row says =
    let n = row_name_is name i row.named in
    let stops = Stops-fields f rest says in
    let word : word_of text ≡ name = ap word_of parts ∙ word_of-append name rest n.free stops in
    let following : after_word text ≡ rest = ap after_word parts ∙ after_word-append name rest n.free stops in
    let alive : bytes_eq text (codes "keep-alive") ≡ false = not_alive text name _ word n.no_alive refl in
    rw (alive, word, n.no_unknown, row.named, following, fields_in-says i.kind.shape rest f row.shape row.fields says) refl

unknown_said : (n : ℕ) (rest bytes : List ℕ) → n < 256 → has_meaning n ≡ false → SaysSpaced rest bytes → unknown_in (spaced n ++ rest)
    ≡ Some (framed_by n bytes)
unknown_said n rest bytes small meaning says =
    let test : (nat_lt n 256 && not (has_meaning n)) ≡ true = and_from _ _ (lt-ltb n 256 small) (not_from_false (has_meaning n) meaning) in
    rw (number_following-spaced n rest (omega arith) (Stops-says rest bytes says), test, with_bytes-says [] rest bytes says) refl

pub message_in-says : (text : List ℕ) (s : Said) → Says text s → message_in text ≡ Some (said_bytes s)
message_in-says text keep_alive says = rw says refl
message_in-says text (known i f) says = known_said text says.0 says.1 i f says.2 says.3 says.4
message_in-says text (unknown n bytes) says = rw says.1 (unknown_said n says.0 bytes says.2 says.3 says.4)

-- ---- handshakes

-- a space and n bytes in hex
record HasArray (n : ℕ) (text bytes rest : List ℕ) : Type 0 where
  word : List ℕ
  text_is : text ≡ codes " " ++ (word ++ rest)
  decoded : decode_of word ≡ Ok bytes
  size : length bytes ≡ n
  fits : IsBytes bytes

array_at : (n c : ℕ) (cs : List ℕ) (p : List ℕ × List ℕ) → (c == 32) ≡ true → option_map (λ bytes. pair bytes (after_word cs))
    (result_ok (decode_sized (word_of cs) n)) ≡ Some p → HasArray n (c ∷ cs) p.0 p.1
array_at n c cs p e h =
    let q = option_map-Some (λ (bytes : List ℕ). pair bytes (after_word cs)) (result_ok (decode_sized (word_of cs) n)) p h in
    let sized = ok_of (decode_sized (word_of cs) n) q.from q.was in
    let len = decode_sized-ok (word_of cs) n q.from sized in
    let decoded : decode_of (word_of cs) ≡ Ok q.from = sym (decode_sized-twice (word_of cs) n len) ∙ sized in
    let is = decode_of-ok (word_of cs) q.from decoded in
    let text : c ∷ cs ≡ codes " " ++ (word_of cs ++ after_word cs) = ap (λ (k : ℕ). k ∷ cs) (is_space c e)
    ∙ ap (λ (x : List ℕ). 32 ∷ x) (sym (word-parts cs)) in
    subst (λ (p : List ℕ × List ℕ). HasArray n (c ∷ cs) p.0 p.1) q.gives (record {
      word = word_of cs;
      text_is = text;
      decoded = decoded;
      size = omega (arith, len, is.2);
      fits = is.3;
    })

array_after-Some : (n : ℕ) (text : List ℕ) (p : List ℕ × List ℕ) → array_after n text ≡ Some p → HasArray n text p.0 p.1
array_after-Some n [] p h = absurd cc
array_after-Some n (c ∷ cs) p h =
    elim (cases_Bool (c == 32)) [
      | inl e ↦ array_at n c cs p e (rw e at h)
      | inr e ↦ absurd (let k = rw e at h in cc k)
    ]

abbrev digit_holds : ℕ → Type 0
digit_holds c = is_hex_digit c ≡ true

no_digit : (c : ℕ) (b : Bool) → (c == 32) ≡ b → is_hex_digit c ≡ true → b ≡ false
no_digit c false e h = refl
no_digit c true e h = absurd (let k = rw (is_space c e) at h in cc k)

digits_have_no_space : (w : List ℕ) → AllPass is_hex_digit w → has_no_space w ≡ true
digits_have_no_space [] h = refl
digits_have_no_space (c ∷ cs) h =
    rw (no_digit c (c == 32) refl (All-head digit_holds c cs h)) (digits_have_no_space cs (All-tail digit_holds c cs h))

array_after-says : (n : ℕ) (word bytes rest : List ℕ) → decode_of word ≡ Ok bytes → length bytes ≡ n → Stops rest
    → array_after n (codes " " ++ (word ++ rest)) ≡ Some (pair bytes rest)
array_after-says n word bytes rest decoded size stops =
    let is = decode_of-ok word bytes decoded in
    let free = digits_have_no_space word is.1 in
    let sized : decode_sized word n ≡ Ok bytes = decode_sized-twice word n (omega (arith, is.2, size)) ∙ decoded in
    rw (word_of-append word rest free stops, after_word-append word rest free stops, sized) refl

number_lt : (b : List ℕ) → IsBytes b → from_be_bytes w64 b < 2 ^ 64
number_lt b fits = omega (arith, fits 0, fits 1, fits 2, fits 3, fits 4, fits 5, fits 6, fits 7)

-- the reserved bytes, the info hash and the peer id
abbrev Three : Type 0
Three = List ℕ × List ℕ × List ℕ

abbrev three : List ℕ → List ℕ → List ℕ → Three
three a b c = (a, b, c)

hand_of : List ℕ → List ℕ → List ℕ → Handshake
hand_of r i p = record { reserved = record { 0 = from_be_bytes w64 r }; info_hash = i; peer_id = p }

-- a handshake with these words
record HasThree (text : List ℕ) (p : Three) : Type 0 where
  reserved : List ℕ
  info : List ℕ
  peer : List ℕ
  reserved_rest : List ℕ
  info_rest : List ℕ
  reserved_read : HasArray 8 text reserved reserved_rest
  info_read : HasArray 20 reserved_rest info info_rest
  peer_read : HasArray 20 info_rest peer []
  same : three reserved info peer ≡ p

three_read : (text : List ℕ) (p : Three) → option_and_then info_in (array_after 8 text) ≡ Some p → HasThree text p
three_read text p h =
    let a = option_and_then-Some info_in (array_after 8 text) p h in
    let b = option_and_then-Some (peer_in a.from.0) (array_after 20 a.from.1) p a.gives in
    let c = option_and_then-Some (λ (q : List ℕ × List ℕ). closed (three a.from.0 b.from.0 q.0) q.1) (array_after 20 b.from.1) p b.gives in
    let d = closed-Some (three a.from.0 b.from.0 c.from.0) c.from.1 p c.gives in
    record {
      reserved = a.from.0;
      info = b.from.0;
      peer = c.from.0;
      reserved_rest = a.from.1;
      info_rest = b.from.1;
      reserved_read = array_after-Some 8 text a.from a.was;
      info_read = array_after-Some 20 a.from.1 b.from b.was;
      peer_read = subst (λ (rest : List ℕ). HasArray 20 b.from.1 c.from.0 rest) d.empty (array_after-Some 20 b.from.1 c.from c.was);
      same = d.same;
    }

handshake_read : (text rest : List ℕ) (p : Three) → text ≡ codes "handshake" ++ rest → HasThree rest p → IsHandshakeLine text (bytes_of_parts p)
unfolding hand_of
handshake_read text rest p parts t =
    let h = hand_of t.reserved t.info t.peer in
    let number : be64 h.reserved.0 ≡ t.reserved = be_bytes_8 t.reserved h.reserved.0 t.reserved_read.size t.reserved_read.fits refl in
    let last : t.info_rest ≡ codes " " ++ t.peer_read.word = t.peer_read.text_is ∙ ap (λ (x : List ℕ). 32 ∷ x) (append-nil t.peer_read.word) in
    let words : text ≡ codes "handshake " ++ (t.reserved_read.word ++ (codes " " ++ (t.info_read.word ++ (codes " " ++ t.peer_read.word)))) =
    parts ∙ ap (λ (x : List ℕ). codes "handshake" ++ x) (t.reserved_read.text_is ∙ ap (λ (x : List ℕ). codes " " ++ (t.reserved_read.word ++ x))
    (t.info_read.text_is ∙ ap (λ (x : List ℕ). codes " " ++ (t.info_read.word ++ x)) last)) in
    let says : HasHandshakeWords text t.reserved_read.word t.info_read.word t.peer_read.word h = record {
      parts = words;
      reserved_bytes = t.reserved_read.decoded ∙ ap Ok (sym number);
      info_bytes = t.info_read.decoded;
      peer_bytes = t.peer_read.decoded;
      fits = record { reserved = number_lt t.reserved t.reserved_read.fits; info_hash = t.info_read.size; peer_id = t.peer_read.size };
    } in (
      h,
      (t.reserved_read.word, t.info_read.word, t.peer_read.word, says),
      ap bytes_of_parts (sym t.same) ∙ ap (λ (r : List ℕ). bytes_of_parts (three r t.info t.peer)) (sym number),
    )

handshake_if : (text : List ℕ) (p : Three) (b : Bool) → bytes_eq (word_of text) (codes "handshake") ≡ b
    → cond b (option_and_then info_in (array_after 8 (after_word text))) None ≡ Some p → IsHandshakeLine text (bytes_of_parts p)
handshake_if text p true e h =
    let parts : text ≡ codes "handshake" ++ after_word text = sym (word-parts text) ∙ ap (λ (x : List ℕ). x ++ after_word text)
    (same_text (word_of text) (codes "handshake") e) in
    handshake_read text (after_word text) p parts (three_read (after_word text) p h)
handshake_if text p false e h = absurd cc

handshake_in-Some : (text bytes : List ℕ) → line_in true text ≡ Some bytes → IsHandshakeLine text bytes
handshake_in-Some text bytes h =
    let m = option_map-Some bytes_of_parts (handshake_in text) bytes h in
    subst (λ (x : List ℕ). IsHandshakeLine text x) m.gives (handshake_if text m.from (bytes_eq (word_of text) (codes "handshake")) refl m.was)

handshake_said : (reserved info peer : List ℕ) (h : Handshake) → decode_of reserved ≡ Ok (be64 h.reserved.0) → decode_of info ≡ Ok h.info_hash
    → decode_of peer ≡ Ok h.peer_id → IsHandshake h
    → line_in true (codes "handshake " ++ (reserved ++ (codes " " ++ (info ++ (codes " " ++ peer))))) ≡ Some (hand h)
handshake_said reserved info peer h r i p fits =
    let last : array_after 20 (codes " " ++ peer) ≡ Some (pair h.peer_id []) =
    ap (λ (x : List ℕ). array_after 20 (codes " " ++ x)) (sym (append-nil peer)) ∙ array_after-says 20 peer h.peer_id [] p fits.peer_id tt in
    let middle = array_after-says 20 info h.info_hash (codes " " ++ peer) i fits.info_hash refl in
    let first = array_after-says 8 reserved (be64 h.reserved.0) (codes " " ++ (info ++ (codes " " ++ peer))) r refl refl in
    rw (first, middle, last) refl

-- ---- a line

pub line_in-Some : (first : Bool) (text bytes : List ℕ) → line_in first text ≡ Some bytes → IsLine first text bytes
line_in-Some true text bytes h = handshake_in-Some text bytes h
line_in-Some false text bytes h = message_in-Some text bytes h

pub line_in-says : (first : Bool) (text bytes : List ℕ) → IsLine first text bytes → line_in first text ≡ Some bytes
line_in-says true text bytes line =
    let w = line.1.3 in
    rw w.parts (handshake_said line.1.0 line.1.1 line.1.2 line.0 w.reserved_bytes w.info_bytes w.peer_bytes w.fits ∙ ap (λ (x : List ℕ). Some x) (sym line.2))
line_in-says false text bytes line = message_in-says text line.0 line.1 ∙ ap (λ (x : List ℕ). Some x) (sym line.2)

added : (first : Bool) (text old new : List ℕ) (b : Bool) → Adds (line_in first text) old new b → IsAdded first text old new b
added first text old new true h =
    let m = option_map-Some (λ (bytes : List ℕ). old ++ bytes) (line_in first text) new h in
    (m.from, line_in-Some first text m.from m.was, sym m.gives)
added first text old new false h =
    (λ other line. absurd (let k : None ≡ Some other = sym h.0 ∙ line_in-says first text other line in cc k), h.1)

pub added_answer : {E : Type 0} (first : Bool) (text old new : List ℕ) (r : Result Bool E) → IfOk r (Adds (line_in first text) old new)
    → IfOk r (IsAdded first text old new)
added_answer first text old new (Ok b) h = added first text old new b h
added_answer first text old new (Err e) h = tt

answer : (first : Bool) (text bytes : List ℕ) (b : Bool) → IsAdded first text [] bytes b → IsAnswer first text bytes b
answer first text bytes true h = rw (sym h.2) at h.1
answer first text bytes false h = h.0

pub read_answer : {E : Type 0} (first : Bool) (text old bytes : List ℕ) (r : Result Bool E) → old ≡ [] → IfOk r (IsAdded first text old bytes)
    → IfOk r (IsAnswer first text bytes)
read_answer first text old bytes (Ok b) none h = answer first text bytes b (rw none at h)
read_answer first text old bytes (Err e) none h = tt

pub one_reading : (first : Bool) (text a b : List ℕ) → IsLine first text a → IsLine first text b → a ≡ b
one_reading first text a b p q =
    let k : Some a ≡ Some b = sym (line_in-says first text a p) ∙ line_in-says first text b q in
    cc k
