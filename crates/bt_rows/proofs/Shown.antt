-- Members of an item, as the fields of its object in `show --json`.
use Rattle.std.specs.Prelude.{◌≡◌, ℕ, zero, suc, ◌<◌, List, [], ◌++◌, Some, codes, decimal}
use Rattle.std.specs.Int.{byte_at, bytes_high_first}
use Rattle.std.proofs.Common.{◌∙◌, append_assoc, arith}
use Rattle.hex.specs.Hex.{IsBytes, encode_lower}
use Rattle.json.specs.Print.{escape, print_from, token_text}
use Rattle.bt_json.proofs.EscapeLaws.{ends_text_or_null, escape_hex}
use Rattle.bt_json.proofs.MemberLaws.{hand_line}
use Rattle.bt_json.specs.Members.{kind_and_name, named, rest_of_line}
use Rattle.bt_json.specs.Objects.{a_field, a_number, handshake_fields, kind_field, text_or_null}
use Rattle.bt_wire.specs.declared.handshake.Handshake.{Handshake}
use Rattle.bt_wire.specs.Numbers.{be64}
use Rattle.bt_rows.specs.declared.said.Words.TheVariants as words
use Rattle.bt_rows.specs.Members.{words_members}

-- a kind and two numbers
pub two_shown : (kind name second : List ℕ) (n m : ℕ)
    → (kind_and_name kind name ++ (decimal n ++ (named second ++ decimal m))) ++ codes "}\n"
    ≡ rest_of_line (kind_field kind ++ (a_number name n ++ a_number second m))
unfolding print_from a_field
two_shown kind name second n m = simp append_assoc

-- a kind and three numbers
pub three_shown : (kind name second third : List ℕ) (n m k : ℕ)
    → (kind_and_name kind name ++ (decimal n ++ (named second ++ (decimal m ++ (named third ++ decimal k))))) ++ codes "}\n"
    ≡ rest_of_line (kind_field kind ++ (a_number name n ++ (a_number second m ++ a_number third k)))
unfolding print_from a_field
three_shown kind name second third n m k = simp append_assoc

-- ---- a handshake

byte_fits : (k n : ℕ) → byte_at k n < 256
byte_fits zero n = omega arith
byte_fits (suc k) n = omega arith

number_fits : (k n : ℕ) → IsBytes (bytes_high_first k n)
number_fits zero n i = omega arith
number_fits (suc k) n zero = byte_fits k n
number_fits (suc k) n (suc i) = number_fits k n i

joined : (a x b y c z d t e : List ℕ)
    → (a ++ (x ++ (b ++ (y ++ (c ++ (z ++ (d ++ t))))))) ++ e ≡ ((((((([] ++ a) ++ x) ++ b) ++ y) ++ c) ++ z) ++ d) ++ (t ++ e)
joined a x b y c z d t e = simp append_assoc

-- its members, with three texts that need no escape
hand_by : (x y z x' y' z' t r : List ℕ) → x' ≡ x → y' ≡ y → z' ≡ z
    → ((((((([] ++ codes ",\"item\":\"handshake\",\"reserved\":\"") ++ x') ++ codes "\",\"info_hash\":\"") ++ y') ++ codes "\",\"peer_id\":\"")
    ++ z') ++ codes "\",\"peer_id_text\":") ++ (t ++ codes "}\n") ≡ r
    → (codes ",\"item\":\"handshake\",\"reserved\":\"" ++ (x ++ (codes "\",\"info_hash\":\"" ++ (y ++ (codes "\",\"peer_id\":\""
    ++ (z ++ (codes "\",\"peer_id_text\":" ++ t))))))) ++ codes "}\n" ≡ r
hand_by x y z x' y' z' t r ex ey ez e =
    rw (← ex) (rw (← ey) (rw (← ez)
    (joined (codes ",\"item\":\"handshake\",\"reserved\":\"") x' (codes "\",\"info_hash\":\"") y' (codes "\",\"peer_id\":\"") z'
    (codes "\",\"peer_id_text\":") t (codes "}\n") ∙ e)))

pub hand_shown : (h : Handshake) → IsBytes h.info_hash → IsBytes h.peer_id
    → words_members (words.Handshake h) ++ codes "}\n" ≡ rest_of_line (handshake_fields h)
hand_shown h info id =
    let x = encode_lower (be64 h.reserved.0) in
    let y = encode_lower h.info_hash in
    let z = encode_lower h.peer_id in
    let t = text_or_null (Some h.peer_id) in
    hand_by x y z (escape x) (escape y) (escape z) (token_text t) _ (escape_hex (be64 h.reserved.0) (number_fits 8 h.reserved.0))
    (escape_hex h.info_hash info) (escape_hex h.peer_id id) (hand_line [] x y z t (ends_text_or_null (Some h.peer_id)))
