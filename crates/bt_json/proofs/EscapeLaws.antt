-- Laws of escapes, and of the text of an extended handshake's line.
use Rattle.std.proofs.Common.{◌≡◌, ◌<◌, ◌≤◌, ◌+◌, ◌-◌, ◌*◌, ◌/◌, ◌%◌, ◌++◌, ◌∷◌, ◌&&◌, [], List, ℕ, zero, suc, Bool, true, false, inl, inr, refl}
use Rattle.std.proofs.Common.{sym, ap, ◌∙◌, add-one, append_assoc, append-nil, arith, drop, take, length, get_or, slice_index, cond, nat_lt, get_or-take}
use Rattle.std.proofs.lemmas.Bool.{and_parts, cases_lt}
use Rattle.std.proofs.lemmas.Grind.{flat_map-append}
use Rattle.std.proofs.lemmas.List.{drop-take, length-append, length-drop, length-take, length-take-le, take-append-drop, take-take, take_all}
use Rattle.std.proofs.Math.Seq.{take-append-add, take-suc}
use Rattle.std.specs.Prelude.{codes, decimal, IsUtf8, Err, Ok, OnErr, Option, Result, Some, None, if◌then◌else◌}
use Rattle.hex.specs.Hex.{IsBytes, encode_lower, encode_with, lower_digits}
use Rattle.json.proofs.Printed.Plain.{escape_on_plain}
use Rattle.json.specs.Run.{is_plain}
use Rattle.json.specs.Written.{PlainBetween}
use Rattle.std.specs.Char.{digit_char}
use Rattle.std.specs.Str.{is_utf8}
use Rattle.json.specs.Print.{ends, escape, escape_byte, escape_letter, print_from, token_text}
use Rattle.json.specs.Token.{Token, end_object, null, string}
use Rattle.bt_json.proofs.FieldLaws.{is_no_text, is_text}
use Rattle.bt_json.specs.Members.{kind_and_name, named, rest_of_line}
use Rattle.bt_json.specs.Objects.{a_field, a_number, kind_field, number_or_null, text_or_null}

pub ends_number_or_null : (o : Option ℕ) → ends (number_or_null o) ≡ true
ends_number_or_null None = refl
ends_number_or_null (Some n) = refl

either_ends : (b : Bool) (s : List ℕ) → ends (if b then string s else null) ≡ true
either_ends true s = refl
either_ends false s = refl

pub ends_text_or_null : (o : Option (List ℕ)) → ends (text_or_null o) ≡ true
ends_text_or_null None = refl
ends_text_or_null (Some s) = either_ends (is_utf8 s) s

joined : (o a x b y c z e f : List ℕ)
    → (o ++ (a ++ (x ++ (b ++ (y ++ c))))) ++ (z ++ (e ++ f)) ≡ o ++ ((a ++ (x ++ (b ++ (y ++ (c ++ (z ++ e)))))) ++ f)
joined o a x b y c z e f = simp append_assoc

-- three fields and the object's end
fields_text : (a b c : List ℕ) (x y z : Token) → ends x ≡ true → ends y ≡ true → ends z ≡ true
    → print_from true (a_field a x ++ (a_field b y ++ (a_field c z ++ end_object ∷ [])))
    ≡ named a ++ (token_text x ++ (named b ++ (token_text y ++ (named c ++ (token_text z ++ codes "}")))))
unfolding print_from a_field
fields_text a b c x y z ex ey ez = rw ex (rw ey (rw ez refl))

-- three fields after a text, each with its value, and the object's end
pub three_fields : (old a b c : List ℕ) (x y z : Token) → ends x ≡ true → ends y ≡ true → ends z ≡ true
    → (old ++ (named a ++ (token_text x ++ (named b ++ (token_text y ++ named c))))) ++ (token_text z ++ codes "}\n")
    ≡ old ++ rest_of_line (a_field a x ++ (a_field b y ++ a_field c z))
unfolding a_field
three_fields old a b c x y z ex ey ez =
    joined old (named a) (token_text x) (named b) (token_text y) (named c) (token_text z) (codes "}") (codes "\n")
    ∙ ap (λ (l : List ℕ). old ++ (l ++ codes "\n")) (sym (fields_text a b c x y z ex ey ez))

-- a kind and two numbers, before other fields
pub two_before : (old kind name second : List ℕ) (n m : ℕ) (fields : List Token)
    → (old ++ (kind_and_name kind name ++ (decimal n ++ (named second ++ decimal m)))) ++ rest_of_line fields
    ≡ old ++ rest_of_line (kind_field kind ++ ((a_number name n ++ a_number second m) ++ fields))
unfolding print_from a_field
two_before old kind name second n m fields = simp append_assoc

-- ---- what a text is printed as

pub text_token : (s : List ℕ) → IsUtf8 s → codes "\"" ++ (escape s ++ codes "\"") ≡ token_text (text_or_null (Some s))
text_token s u = rw (is_text s u) refl

pub no_text_token : (s : List ℕ) → (IsUtf8 s → ⊥) → codes "null" ≡ token_text (text_or_null (Some s))
no_text_token s bad = rw (is_no_text s bad) refl

-- ---- how many bytes stand in a string

sizes : (b c : Bool) (l h g y : ℕ)
    → (1 ≤ length (cond b (92 ∷ l ∷ []) (cond c (92 ∷ 117 ∷ 48 ∷ 48 ∷ h ∷ g ∷ []) (y ∷ []))))
    × (length (cond b (92 ∷ l ∷ []) (cond c (92 ∷ 117 ∷ 48 ∷ 48 ∷ h ∷ g ∷ []) (y ∷ []))) ≤ 6)
sizes true c l h g y = (omega arith, omega arith)
sizes false true l h g y = (omega arith, omega arith)
sizes false false l h g y = (omega arith, omega arith)

pub byte_size : (x : ℕ) → (1 ≤ length (escape_byte x)) × (length (escape_byte x) ≤ 6)
unfolding escape_byte
byte_size x = sizes (nat_lt 0 (escape_letter x)) (nat_lt x 32) (escape_letter x) (digit_char (x / 16)) (digit_char (x % 16)) x

pub escape_size : (s : List ℕ) → length (escape s) ≤ 6 * length s
escape_size [] = omega arith
escape_size (x ∷ xs) =
    let both = length-append (escape_byte x) (escape xs) in
    let first = (byte_size x).1 in
    let rest = escape_size xs in
    omega (arith, both, first, rest)

pub escape_long : (s : List ℕ) → length s ≤ length (escape s)
escape_long [] = omega arith
escape_long (x ∷ xs) = omega (arith, length-append (escape_byte x) (escape xs), (byte_size x).0, escape_long xs)

pub escape_parts : (n : ℕ) (s : List ℕ) → escape s ≡ escape (take n s) ++ escape (drop n s)
escape_parts n s = ap escape (sym (take-append-drop n s)) ∙ flat_map-append escape_byte (take n s) (drop n s)

pub part_sizes : (n : ℕ) (s : List ℕ) → length (escape s) ≡ length (escape (take n s)) + length (escape (drop n s))
part_sizes n s = ap length (escape_parts n s) ∙ length-append (escape (take n s)) (escape (drop n s))

-- ---- bytes that need no escape

pub plain_front : (s : List ℕ) (n : ℕ) → n ≤ length s → PlainBetween s 0 n → escape (take n s) ≡ take n s
plain_front s n long h =
    let size = length-take-le n s long in
    escape_on_plain true (take n s) (λ k p q. ap is_plain (get_or-take n s k 0 (omega (arith, size))) ∙ h k p (omega (arith, size)))

pub plain_more : (s : List ℕ) (n : ℕ) → PlainBetween s 0 n → is_plain (get_or s n 0) ≡ true → PlainBetween s 0 (n + 1)
plain_more s n h e k p q =
    elim (cases_lt k n) [
      | inl below ↦ h k p below
      | inr top ↦
          let same : k ≡ n = omega arith in
          rw same e
    ]

-- what one byte more is printed as
pub escape_more : (s : List ℕ) (n : ℕ) → n < length s → escape (take (n + 1) s) ≡ escape (take n s) ++ escape_byte (get_or s n 0)
escape_more s n lt =
    ap escape (ap (λ (k : ℕ). take k s) (add-one n) ∙ take-suc s n 0 lt) ∙ flat_map-append escape_byte (take n s) (get_or s n 0 ∷ [])
    ∙ ap (λ (l : List ℕ). escape (take n s) ++ l) (append-nil _)

-- a byte more is put: more bytes are written than count
pub put_more : (new old e s : List ℕ) (to size more n : ℕ) → to ≡ size + length e → size ≤ length old → more ≤ length e → take to new ≡ take size old ++ e
    → take size old ≡ escape (take n s) → n < length s → take more e ≡ escape_byte (get_or s n 0) → take (size + more) new ≡ escape (take (n + 1) s)
put_more new old e s to size more n end fits small put before lt next =
    sym (take-take (size + more) to new (omega arith))
    ∙ (ap (take (size + more)) put
    ∙ (ap (λ (k : ℕ). take (k + more) (take size old ++ e)) (sym (length-take-le size old fits))
    ∙ (take-append-add (take size old) e more
    ∙ (ap (λ (l : List ℕ). l ++ take more e) before
    ∙ (ap (λ (l : List ℕ). escape (take n s) ++ l) next ∙ sym (escape_more s n lt))))))

two_parts : (m n : ℕ) (s : List ℕ) → take (m + n) s ≡ take m s ++ take n (drop m s)
two_parts m n s =
    sym (take-append-drop m (take (m + n) s))
    ∙ (ap (λ (l : List ℕ). l ++ drop m (take (m + n) s)) (take-take m (m + n) s (omega arith)) ∙ ap (λ (l : List ℕ). take m s ++ l) (drop-take m n s))

-- the bytes from one on, as a slice of them is taken
abbrev rest_of : ℕ → List ℕ → List ℕ
rest_of m s = take (length s - m) (drop m s)

all_left : (m : ℕ) (s : List ℕ) → rest_of m s ≡ drop m s
all_left m s = take_all (length s - m) (drop m s) (omega (arith, length-drop m s))

-- plain bytes, and those after them
pub run_and_few : (s : List ℕ) (m n : ℕ) → m ≤ length s → PlainBetween s 0 m → escape (take (m + n) s) ≡ take m s ++ escape (take n (rest_of m s))
run_and_few s m n long h =
    ap escape (two_parts m n s) ∙ (flat_map-append escape_byte (take m s) (take n (drop m s))
    ∙ (ap (λ (l : List ℕ). l ++ escape (take n (drop m s))) (plain_front s m long h)
    ∙ ap (λ (l : List ℕ). take m s ++ escape (take n l)) (sym (all_left m s))))

-- they are no longer than the whole text
pub plain_size : (s : List ℕ) (n : ℕ) → n ≤ length s → PlainBetween s 0 n → n ≤ length (escape s)
plain_size s n long h = omega (arith, part_sizes n s, ap length (plain_front s n long h), length-take-le n s long)

pub few_size : (s : List ℕ) (m n : ℕ) → m ≤ length s → PlainBetween s 0 m → m + length (escape (take n (rest_of m s))) ≤ length (escape s)
few_size s m n long h =
    let both = ap length (run_and_few s m n long h) ∙ length-append (take m s) (escape (take n (rest_of m s))) in
    omega (arith, part_sizes (m + n) s, both, length-take-le m s long)

-- what stands after the one is after the other
pub kept_on : (new mid old : List ℕ) → take (length mid) new ≡ mid → take (length old) mid ≡ old → take (length old) new ≡ old
kept_on new mid old a b =
    sym (take-take (length old) (length mid) new (omega (arith, ap length b, length-take (length old) mid))) ∙ ap (take (length old)) a ∙ b

pub any_err : {T E P : Type 0} (r : Result T E) → P → OnErr r P
any_err (Ok a) p = tt
any_err (Err e) p = p

-- the hex digits below n are plain, which computes
abbrev plain_below : ℕ → Bool
plain_below zero = true
plain_below (suc n) = is_plain (slice_index lower_digits n) && plain_below n

plain_digit : (n k : ℕ) → plain_below n ≡ true → k < n → is_plain (slice_index lower_digits k) ≡ true
plain_digit zero k h lt = absurd (omega arith)
plain_digit (suc n) k h lt =
    let parts = and_parts (is_plain (slice_index lower_digits n)) (plain_below n) h in
    elim (cases_lt k n) [
      | inl below ↦ plain_digit n k parts.1 below
      | inr top ↦
          let e : k ≡ n = omega arith in
          rw e parts.0
    ]

plain_hex : (s : List ℕ) → IsBytes s → PlainBetween (encode_lower s) 0 (length (encode_lower s))
unfolding encode_with
plain_hex [] h k p q = absurd (omega arith)
plain_hex (b ∷ rest) h zero p q = let byte : b < 256 = h 0 in plain_digit 16 (b / 16) refl (omega arith)
plain_hex (b ∷ rest) h (suc zero) p q = let byte : b < 256 = h 0 in plain_digit 16 (b % 16) refl (omega arith)
plain_hex (b ∷ rest) h (suc (suc k)) p q = plain_hex rest (λ i. h (suc i)) k (omega arith) (omega arith)

pub escape_hex : (s : List ℕ) → IsBytes s → escape (encode_lower s) ≡ encode_lower s
escape_hex s h = escape_on_plain true (encode_lower s) (plain_hex s h)
