-- What a report writes of an item or a time is UTF-8.
use Rattle.std.proofs.Common.{◌≡◌, ◌<◌, ◌+◌, ◌/◌, ◌%◌, ◌==◌, ◌++◌, ◌∷◌, [], List, ℕ, zero, suc, Bool, true, false, arith, refl, ltb-true}
use Rattle.std.specs.Prelude.{codes, decimal, IsUtf8, Option, Some, None, if◌then◌else◌, nat_lt}
use Rattle.std.specs.Fmt.{digit_glyph, digits, digits_onto}
use Rattle.std.specs.Str.{IsAscii, is_utf8}
use Rattle.std.proofs.lemmas.Str.{IsUtf8-append, IsUtf8-from_ascii, IsUtf8-nil, IsUtf8-from_is_utf8}
use Rattle.std.proofs.lemmas.Str.Ascii.{IsAscii-cons, IsAscii-nil}
use Rattle.hex.specs.Hex.{encode_lower, encode_with, lower_digits}
use Rattle.json.proofs.Printed.Utf8.{IsUtf8-are_ascii, IsUtf8-quoted, are_ascii}
use Rattle.std.proofs.lemmas.Bool.{and_parts}
use Rattle.json.specs.Print.{token_text}
use Rattle.json.specs.Token.{string, null}
use Rattle.bt_json.specs.Objects.{text_or_null}
use Rattle.bt_text.specs.Lines.{or_dash, spaced}
use Rattle.bt_rows.specs.declared.said.Name.{Name}
use Rattle.bt_rows.specs.declared.said.Name.TheVariants as name
use Rattle.bt_rows.specs.declared.said.Numbers.{Numbers}
use Rattle.bt_rows.specs.declared.said.Numbers.TheVariants.{Zero, One, Two, Three}
use Rattle.bt_rows.specs.declared.said.Words.{Words}
use Rattle.bt_rows.specs.declared.said.Words.TheVariants as words
use Rattle.bt_rows.specs.declared.said.Said.{Said}
use Rattle.bt_rows.specs.Members.{first_key, second_key, third_key, member, number_members, words_members, said_object}
use Rattle.bt_rows.specs.Numbers.{digit, option_text, time_text}
use Rattle.bt_rows.specs.Said.{name_text, numbers_text, said_text, words_text}

-- ---- numbers and hex

below : (x : ℕ) (xs : List ℕ) → x < 128 → IsUtf8 xs → IsUtf8 (x ∷ xs)
below x xs small u = IsUtf8-append (x ∷ []) xs (IsUtf8-from_ascii (x ∷ []) (IsAscii-cons x [] small IsAscii-nil)) u

either : (b : Bool) (x y : List ℕ) → IsUtf8 x → IsUtf8 y → IsUtf8 (if b then x else y)
either true x y p q = p
either false x y p q = q

glyph_below : (b : Bool) (d : ℕ) → d < 10 → (if b then 48 + d else 87 + d) < 128
glyph_below true d h = omega arith
glyph_below false d h = omega arith

digits_utf8 : (k n : ℕ) (acc : List ℕ) → IsUtf8 acc → IsUtf8 (digits_onto k 10 false n acc)
digits_utf8 zero n acc h = h
digits_utf8 (suc k) n acc h =
    let more : IsUtf8 (digit_glyph false (n % 10) ∷ acc) = below _ acc (glyph_below (nat_lt (n % 10) 10) (n % 10) (omega arith)) h in
    either (n / 10 == 0) _ _ more (digits_utf8 k (n / 10) _ more)

decimal_utf8 : (n : ℕ) → IsUtf8 (decimal n)
unfolding digits
decimal_utf8 n = digits_utf8 64 n [] IsUtf8-nil

table_ascii : (xs : List ℕ) → are_ascii xs ≡ true → IsAscii xs
table_ascii [] e = IsAscii-nil
table_ascii (x ∷ xs) e = let p = and_parts _ _ e in IsAscii-cons x xs (ltb-true _ _ p.0) (table_ascii xs p.1)

pub hex_utf8 : (bytes : List ℕ) → IsUtf8 (encode_lower bytes)
unfolding encode_with
hex_utf8 [] = IsUtf8-nil
hex_utf8 (b ∷ bytes) =
    let table : IsAscii lower_digits = table_ascii lower_digits refl in
    below _ _ (table (b / 16)) (below _ _ (table (b % 16)) (hex_utf8 bytes))

spaced_utf8 : (n : ℕ) → IsUtf8 (spaced n)
spaced_utf8 n = IsUtf8-append _ _ (IsUtf8-are_ascii (codes " ") refl) (decimal_utf8 n)

dash_utf8 : (o : Option ℕ) → IsUtf8 (or_dash o)
dash_utf8 None = IsUtf8-are_ascii (codes "-") refl
dash_utf8 (Some n) = decimal_utf8 n

option_utf8 : (words : List ℕ) → are_ascii words ≡ true → (o : Option ℕ) → IsUtf8 (option_text words o)
option_utf8 words e None = IsUtf8-nil
option_utf8 words e (Some n) = IsUtf8-append words _ (IsUtf8-are_ascii words e) (decimal_utf8 n)

-- ASCII before a text
after : (front text : List ℕ) → are_ascii front ≡ true → IsUtf8 text → IsUtf8 (front ++ text)
after front text e u = IsUtf8-append front text (IsUtf8-are_ascii front e) u

-- ---- a time

digit_below : (n : ℕ) → digit n < 128
digit_below n = omega arith

pub time_utf8 : (n : ℕ) → IsUtf8 (time_text n)
time_utf8 n = IsUtf8-append _ _ (decimal_utf8 (n / 1000000000)) (after (codes ".") _ refl
    (below _ _ (digit_below (n / 1000 / 100000)) (below _ _ (digit_below (n / 1000 / 10000)) (below _ _ (digit_below (n / 1000 / 1000))
    (below _ _ (digit_below (n / 1000 / 100)) (below _ _ (digit_below (n / 1000 / 10)) (below _ _ (digit_below (n / 1000)) IsUtf8-nil)))))))

-- ---- an item in words

-- a name and its keys
texts_ascii : (n : Name)
    → (are_ascii (name_text n) ≡ true) × (are_ascii (first_key n) ≡ true) × (are_ascii (second_key n) ≡ true) × (are_ascii (third_key n) ≡ true)
texts_ascii name.KeepAlive = (refl, refl, refl, refl)
texts_ascii name.Choke = (refl, refl, refl, refl)
texts_ascii name.Unchoke = (refl, refl, refl, refl)
texts_ascii name.Interested = (refl, refl, refl, refl)
texts_ascii name.NotInterested = (refl, refl, refl, refl)
texts_ascii name.Have = (refl, refl, refl, refl)
texts_ascii name.Bitfield = (refl, refl, refl, refl)
texts_ascii name.Request = (refl, refl, refl, refl)
texts_ascii name.Piece = (refl, refl, refl, refl)
texts_ascii name.Cancel = (refl, refl, refl, refl)
texts_ascii name.Port = (refl, refl, refl, refl)
texts_ascii name.Suggest = (refl, refl, refl, refl)
texts_ascii name.HaveAll = (refl, refl, refl, refl)
texts_ascii name.HaveNone = (refl, refl, refl, refl)
texts_ascii name.Reject = (refl, refl, refl, refl)
texts_ascii name.AllowedFast = (refl, refl, refl, refl)
texts_ascii name.DontHave = (refl, refl, refl, refl)
texts_ascii name.Extended = (refl, refl, refl, refl)
texts_ascii name.MetadataRequest = (refl, refl, refl, refl)
texts_ascii name.MetadataData = (refl, refl, refl, refl)
texts_ascii name.MetadataReject = (refl, refl, refl, refl)
texts_ascii name.MetadataOther = (refl, refl, refl, refl)
texts_ascii name.MetadataMalformed = (refl, refl, refl, refl)
texts_ascii name.Unknown = (refl, refl, refl, refl)

numbers_utf8 : (n : Numbers) → IsUtf8 (numbers_text n)
numbers_utf8 Zero = IsUtf8-nil
numbers_utf8 (One n) = spaced_utf8 n
numbers_utf8 (Two n m) = IsUtf8-append _ _ (spaced_utf8 n) (spaced_utf8 m)
numbers_utf8 (Three n m k) = IsUtf8-append _ _ (spaced_utf8 n) (IsUtf8-append _ _ (spaced_utf8 m) (spaced_utf8 k))

words_utf8 : (w : Words) → IsUtf8 (words_text w)
words_utf8 (words.Handshake h) =
    after (codes "handshake ") _ refl (IsUtf8-append _ _ (hex_utf8 _) (after (codes " ") _ refl (IsUtf8-append _ _ (hex_utf8 _)
    (after (codes " ") _ refl (hex_utf8 _)))))
words_utf8 (words.Announced dict rest size id) =
    after (codes "ext-handshake") _ refl (IsUtf8-append _ _ (IsUtf8-append _ _ (spaced_utf8 dict) (spaced_utf8 rest))
    (after (codes " size=") _ refl (IsUtf8-append _ _ (dash_utf8 size) (after (codes " ut_metadata=") _ refl (dash_utf8 id)))))
words_utf8 (words.Message name numbers) = after (name_text name) _ (texts_ascii name).0 (numbers_utf8 numbers)

pub said_utf8 : (s : Said) → IsUtf8 (said_text s)
said_utf8 s = IsUtf8-append _ _ (decimal_utf8 s.offset) (after (codes " ") _ refl (words_utf8 s.words))

-- ---- an item as an object

member_utf8 : (key : List ℕ) (n : ℕ) → are_ascii key ≡ true → IsUtf8 (member key n)
member_utf8 key n e = after (codes ",\"") _ refl (after key _ e (after (codes "\":") _ refl (decimal_utf8 n)))

members_utf8 : (m : Name) (n : Numbers) → IsUtf8 (number_members m n)
members_utf8 m Zero = IsUtf8-nil
members_utf8 m (One n) = member_utf8 _ n (texts_ascii m).1
members_utf8 m (Two n k) = IsUtf8-append _ _ (member_utf8 _ n (texts_ascii m).1) (member_utf8 _ k (texts_ascii m).2)
members_utf8 m (Three n k l) =
    IsUtf8-append _ _ (member_utf8 _ n (texts_ascii m).1) (IsUtf8-append _ _ (member_utf8 _ k (texts_ascii m).2) (member_utf8 _ l (texts_ascii m).3))

text_utf8 : (s : List ℕ) (b : Bool) → (b ≡ true → IsUtf8 s) → IsUtf8 (token_text (if b then string s else null))
text_utf8 s true u = IsUtf8-quoted s (u refl)
text_utf8 s false u = IsUtf8-are_ascii (codes "null") refl

peer_utf8 : (id : List ℕ) → IsUtf8 (token_text (text_or_null (Some id)))
peer_utf8 id = text_utf8 id (is_utf8 id) (λ e. IsUtf8-from_is_utf8 id e)

item_utf8 : (w : Words) → IsUtf8 (words_members w)
item_utf8 (words.Handshake h) =
    after (codes ",\"item\":\"handshake\",\"reserved\":\"") _ refl (IsUtf8-append _ _ (hex_utf8 _) (after (codes "\",\"info_hash\":\"") _ refl
    (IsUtf8-append _ _ (hex_utf8 _) (after (codes "\",\"peer_id\":\"") _ refl
    (IsUtf8-append _ _ (hex_utf8 _) (after (codes "\",\"peer_id_text\":") _ refl (peer_utf8 h.peer_id)))))))
item_utf8 (words.Announced dict rest size id) =
    IsUtf8-append _ _ (after (codes ",\"item\":\"ext-handshake\",\"dictionary\":") _ refl (IsUtf8-append _ _ (decimal_utf8 dict)
    (after (codes ",\"rest\":") _ refl (decimal_utf8 rest))))
    (IsUtf8-append _ _ (option_utf8 (codes ",\"metadata_size\":") refl size) (option_utf8 (codes ",\"ut_metadata\":") refl id))
item_utf8 (words.Message name numbers) =
    after (codes ",\"item\":\"") _ refl (after (name_text name) _ (texts_ascii name).0 (after (codes "\"") _ refl (members_utf8 name numbers)))

pub object_utf8 : (s : Said) → IsUtf8 (said_object s)
object_utf8 s =
    IsUtf8-append _ _ (after (codes "{\"offset\":") _ refl (decimal_utf8 s.offset))
    (IsUtf8-append _ _ (item_utf8 s.words) (IsUtf8-are_ascii (codes "}") refl))
