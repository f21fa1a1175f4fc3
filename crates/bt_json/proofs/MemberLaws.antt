-- The text of an object's line by its fields, for each number of them.
use Rattle.std.proofs.Common.{◌≡◌, ◌≤◌, ◌++◌, ◌∷◌, ◌∙◌, [], List, ℕ, ap, append_assoc, arith, drop, length, refl, sym, take}
use Rattle.std.proofs.lemmas.List.{length-take-le, take-append-le, take-take}
use Rattle.std.proofs.Math.Seq.{take-append_seam}
use Rattle.std.specs.Prelude.{codes, decimal, true}
use Rattle.json.specs.Print.{ends, escape, escape_byte, print_from, quoted, token_text}
use Rattle.json.specs.Token.{Token, end_object}
use Rattle.bt_json.specs.Members.{kind_and_name, named, rest_of_line}
use Rattle.bt_json.specs.Objects.{a_field, a_number, a_text, kind_field, object_line, verdict_line}
use Rattle.bt_text.specs.declared.ended.Ended.TheVariants.{Accepted, Refused}
use Rattle.bt_wire.specs.declared.item.Refusal.{Refusal}
use Rattle.bt_wire.specs.Reasons.{reason_name}

-- a kind and a number, after a text
pub one_number : (old kind name : List ℕ) (n : ℕ)
    → old ++ (kind_and_name kind name ++ (decimal n ++ codes "}\n")) ≡ old ++ rest_of_line (kind_field kind ++ a_number name n)
unfolding print_from a_field
one_number old kind name n = simp append_assoc

-- a kind and two numbers
pub two_numbers : (old kind name second : List ℕ) (n m : ℕ)
    → old ++ (kind_and_name kind name ++ (decimal n ++ (named second ++ (decimal m ++ codes "}\n"))))
    ≡ old ++ rest_of_line (kind_field kind ++ (a_number name n ++ a_number second m))
unfolding print_from a_field
two_numbers old kind name second n m = simp append_assoc

-- a kind and three numbers
pub three_numbers : (old kind name second third : List ℕ) (n m k : ℕ)
    → old ++ (kind_and_name kind name ++ (decimal n ++ (named second ++ (decimal m ++ (named third ++ (decimal k ++ codes "}\n"))))))
    ≡ old ++ rest_of_line (kind_field kind ++ (a_number name n ++ (a_number second m ++ a_number third k)))
unfolding print_from a_field
three_numbers old kind name second third n m k = simp append_assoc

-- a line: its offset and what follows it, after a text
pub offset_line : (old : List ℕ) (at : ℕ) (fields : List Token)
    → (old ++ (codes "{\"offset\":" ++ decimal at)) ++ rest_of_line fields ≡ old ++ object_line (a_number (codes "offset") at ++ fields)
unfolding print_from a_field escape_byte
offset_line old at fields = simp append_assoc

-- a handshake's fields, of its texts in hex
abbrev hand_fields : List ℕ → List ℕ → List ℕ → Token → List Token
hand_fields x y z t =
    kind_field (codes "handshake")
    ++ (a_text (codes "reserved") x ++ (a_text (codes "info_hash") y ++ (a_text (codes "peer_id") z ++ a_field (codes "peer_id_text") t)))

joined_hand : (o a x q b y c z d t e f : List ℕ)
    → ((((((((o ++ a) ++ x) ++ (q ++ b)) ++ y) ++ (q ++ c)) ++ z) ++ (q ++ d)) ++ (t ++ (e ++ f)))
    ≡ o ++ ((a ++ ((x ++ q) ++ (b ++ ((y ++ q) ++ (c ++ ((z ++ q) ++ (d ++ (t ++ e)))))))) ++ f)
joined_hand o a x q b y c z d t e f = simp append_assoc

hand_text : (x y z : List ℕ) (t : Token) → ends t ≡ true
    → print_from true (hand_fields x y z t ++ end_object ∷ [])
    ≡ codes ",\"item\":\"handshake\",\"reserved\":\"" ++ ((escape x ++ 34 ∷ []) ++ (codes ",\"info_hash\":\"" ++ ((escape y ++ 34 ∷ [])
    ++ (codes ",\"peer_id\":\"" ++ ((escape z ++ 34 ∷ []) ++ (codes ",\"peer_id_text\":" ++ (token_text t ++ codes "}")))))))
unfolding print_from a_field escape_byte
hand_text x y z t et = rw et refl

-- the fields of a handshake, after a text
pub hand_line : (old x y z : List ℕ) (t : Token) → ends t ≡ true
    → (((((((old ++ codes ",\"item\":\"handshake\",\"reserved\":\"") ++ escape x) ++ codes "\",\"info_hash\":\"") ++ escape y) ++ codes "\",\"peer_id\":\"")
    ++ escape z) ++ codes "\",\"peer_id_text\":") ++ (token_text t ++ codes "}\n")
    ≡ old ++ rest_of_line (hand_fields x y z t)
hand_line old x y z t et =
    joined_hand old (codes ",\"item\":\"handshake\",\"reserved\":\"") (escape x) (34 ∷ []) (codes ",\"info_hash\":\"") (escape y) (codes ",\"peer_id\":\"")
    (escape z) (codes ",\"peer_id_text\":") (token_text t) (codes "}") (codes "\n")
    ∙ ap (λ (l : List ℕ). old ++ (l ++ codes "\n")) (sym (hand_text x y z t et))

-- the line of a refusal, after a text
pub refused_line : (old : List ℕ) (r : Refusal)
    → (((((old ++ codes "{\"verdict\":\"refused\",\"message\":") ++ decimal r.message) ++ codes ",\"offset\":") ++ decimal r.at) ++ codes ",\"reason\":")
    ++ (quoted (reason_name r.reason) ++ codes "}\n")
    ≡ old ++ verdict_line (Refused r)
unfolding print_from a_field escape_byte
refused_line old r = simp append_assoc

-- the line of a stream that is accepted, after a text
pub accepted_line : (old : List ℕ) (n m : ℕ)
    → old ++ (codes "{\"verdict\":\"ok\",\"messages\":" ++ (decimal n ++ (codes ",\"bytes\":" ++ (decimal m ++ codes "}\n"))))
    ≡ old ++ verdict_line (Accepted n m)
unfolding print_from a_field escape_byte
accepted_line old n m = simp append_assoc

-- what was put into a whole buffer is in it
pub whole_buffer : (size : ℕ) (put items : List ℕ) → length put ≡ size → take size (put ++ drop (length put) items) ≡ put
whole_buffer size put items long = ap (λ (m : ℕ). take m (put ++ drop (length put) items)) (sym long) ∙ take-append_seam put _

-- what stands before a line is kept, if its front was put into the buffer and the rest follows that
pub kept_front : (at end size : ℕ) (put items new old last line : List ℕ) → at ≤ end → end ≤ length put → at ≤ length old → length put ≡ size
    → take end put ++ last ≡ take at old ++ line → take end new ≡ take end (take size (put ++ drop (length put) items)) → take at new ≡ take at old
kept_front at end size put items new old last line some long room same told kept =
    let front = take-append-le at (take end put) last (omega (arith, length-take-le end put long)) in
    let before = take-append-le at (take at old) line (omega (arith, length-take-le at old room)) in
    sym (take-take at end new some) ∙ ap (take at) kept ∙ take-take at end _ some ∙ ap (take at) (whole_buffer size put items same)
    ∙ sym (take-take at end put some) ∙ sym front ∙ ap (take at) told ∙ before ∙ take-take at at old (omega arith)
