-- For proofs and private contracts alone: a line of a script, read from left to right.
use Rattle.std.specs.Prelude.{◌≡◌, ◌==◌, ℕ, ◌^◌, nat_lt, Bool, true, false, not, ◌&&◌, List, [], ◌∷◌, ◌++◌, length, codes, Option, Some, None, option_map}
use Rattle.std.specs.Prelude.{◌<◌, ◌≤◌, slice_index, take, IfSome}
use Rattle.std.specs.Prelude.{option_and_then, if◌then◌else◌}
use Rattle.std.specs.Borrow.{Bor}
use Rattle.std.specs.Char.{is_ascii_digit}
use Rattle.std.specs.Fmt.{decimal}
use Rattle.std.specs.Int.{IsInRange}
use Rattle.std.specs.Result.{result_ok}
use Rattle.std.specs.Str.{bytes_eq}
use Rattle.std.specs.Str.Parse.{digits_value}
use Rattle.hex.specs.Hex.{decode_of, decode_sized}
use Rattle.bt_wire.specs.declared.ids.Shape.{Shape}
use Rattle.bt_wire.specs.declared.ids.Shape.TheVariants.{Nothing, Index, Part, Block, Port, Field, Extended}
use Rattle.bt_wire.specs.declared.handshake.Handshake.{Handshake}
use Rattle.bt_wire.specs.Handshakes.{protocol}
use Rattle.bt_wire.specs.Ids.{Id, ids, has_meaning, row_named}
use Rattle.bt_wire.specs.Numbers.{be16, be32, be64}
use Rattle.bt_text.specs.Script.{framed_by}

-- ---- words

-- the text up to its first space
abbrev pub word_of : List ℕ → List ℕ
word_of [] = []
word_of (c ∷ cs) = if c == 32 then [] else c ∷ word_of cs

-- and from there on
abbrev pub after_word : List ℕ → List ℕ
after_word [] = []
after_word (c ∷ cs) = if c == 32 then c ∷ cs else after_word cs

-- nothing, or a space is the first of it
abbrev pub ends : List ℕ → Bool
ends [] = true
ends (c ∷ cs) = c == 32

-- the number below 2 ^ 32 whose digits the word is
unfoldable pub number_in_word : List ℕ → Option ℕ
number_in_word w = if nat_lt (digits_value 10 w) (2 ^ 32) && bytes_eq (decimal (digits_value 10 w)) w then Some (digits_value 10 w) else None

-- the bytes that the word says
unfoldable pub bytes_in_word : List ℕ → Option (List ℕ)
bytes_in_word w = if bytes_eq w (codes "-") then Some [] else if length w == 0 then None else result_ok (decode_of w)

-- ---- numbers, each after a space, as bytes, and what follows them

-- the number that the text's first word says, and what follows that word
abbrev pub first_number : List ℕ → Option (ℕ × List ℕ)
first_number text = option_map (λ n. (n, after_word text)) (number_in_word (word_of text))

abbrev pub number_following : List ℕ → Option (ℕ × List ℕ)
number_following [] = None
number_following (c ∷ cs) = if c == 32 then first_number cs else None

-- the first `count` bytes are all digits that lead the text, and n is their value
pub record IsLed (text : List ℕ) (n count : ℕ) : Type 0 where
  pub within : count ≤ length text
  pub value : n ≡ digits_value 10 (take count text)
  pub digits : (k : ℕ) → k < count → IsInRange 48 57 (slice_index text k)
  pub ended : count < length text → is_ascii_digit (slice_index text count) ≡ false

-- whether a digit is the first of it
abbrev pub goes_on : List ℕ → Bool
goes_on [] = false
goes_on (c ∷ cs) = is_ascii_digit c

-- the number below 2 ^ 32 in front of the text and what follows its last digit, if there is one
pub record IsLeading (text : List ℕ) (r : Option (ℕ × List ℕ)) : Type 0 where
  pub found : IfSome r (λ p. (p.0 < 2 ^ 32) × (text ≡ decimal p.0 ++ p.1))
  pub all : (n : ℕ) (rest : List ℕ) → n < 2 ^ 32 → goes_on rest ≡ false → text ≡ decimal n ++ rest → r ≡ Some (n, rest)

abbrev pub after_one : List ℕ → ℕ × List ℕ → List ℕ × List ℕ
after_one front p = (front ++ be32 p.0, p.1)

-- as many of these bytes as there are, and one number more
abbrev pub one_more_after : List ℕ × List ℕ → Option (List ℕ × List ℕ)
one_more_after p = option_map (after_one p.0) (number_following p.1)

abbrev pub two_after : List ℕ → Option (List ℕ × List ℕ)
two_after text = option_and_then one_more_after (one_more_after ([], text))

abbrev pub three_after : List ℕ → Option (List ℕ × List ℕ)
three_after text = option_and_then one_more_after (two_after text)

-- ---- fields

-- nothing follows what was read
abbrev pub closed : {A : Type 0} → A → List ℕ → Option A
closed x [] = Some x
closed x (c ∷ cs) = None

abbrev pub bytes_after : List ℕ → Option (List ℕ)
bytes_after [] = None
bytes_after (c ∷ cs) = if c == 32 then bytes_in_word cs else None

-- the bytes after a space follow the numbers
abbrev pub with_bytes : List ℕ → List ℕ → Option (List ℕ)
with_bytes numbers text = option_map (λ bytes. numbers ++ bytes) (bytes_after text)

abbrev pub port_in : ℕ × List ℕ → Option (List ℕ)
port_in p = if nat_lt p.0 65536 then closed (be16 p.0) p.1 else None

abbrev pub extended_in : ℕ × List ℕ → Option (List ℕ)
extended_in p = if nat_lt p.0 256 then with_bytes (p.0 ∷ []) p.1 else None

-- the bytes of the fields of this shape
abbrev pub fields_in : Shape → List ℕ → Option (List ℕ)
fields_in Nothing text = closed [] text
fields_in Index text = option_and_then (λ p. closed (be32 p.0) p.1) (number_following text)
fields_in Part text = option_and_then (λ p. closed p.0 p.1) (three_after text)
fields_in Block text = option_and_then (λ p. with_bytes p.0 p.1) (two_after text)
fields_in Port text = option_and_then port_in (number_following text)
fields_in Field text = with_bytes [] text
fields_in Extended text = option_and_then extended_in (number_following text)

-- ---- a message

abbrev pub payload_in : ℕ × List ℕ → Option (List ℕ)
payload_in p = if nat_lt p.0 256 && not (has_meaning p.0) then option_map (framed_by p.0) (with_bytes [] p.1) else None

abbrev pub unknown_in : List ℕ → Option (List ℕ)
unknown_in text = option_and_then payload_in (number_following text)

abbrev pub row_in_text : List ℕ → Id → Option (List ℕ)
row_in_text text i = option_map (framed_by i.number) (fields_in i.kind.shape text)

abbrev pub number_and_shape : Id → ℕ × Shape
number_and_shape i = (i.number, i.kind.shape)

abbrev pub message_in : List ℕ → Option (List ℕ)
message_in text =
    if bytes_eq text (codes "keep-alive") then Some (be32 0)
    else if bytes_eq (word_of text) (codes "unknown") then unknown_in (after_word text)
    else option_and_then (row_in_text (after_word text)) (row_named (word_of text) ids)

-- ---- a handshake

-- the n bytes of hex digits after a space, and what follows them
abbrev pub array_after : ℕ → List ℕ → Option (List ℕ × List ℕ)
array_after n [] = None
array_after n (c ∷ cs) = if c == 32 then option_map (λ bytes. (bytes, after_word cs)) (result_ok (decode_sized (word_of cs) n)) else None

-- its reserved bytes, info hash and peer id
abbrev pub parts_of : Handshake → List ℕ × List ℕ × List ℕ
parts_of h = (be64 h.reserved.0, h.info_hash, h.peer_id)

abbrev pub peer_in : List ℕ → List ℕ × List ℕ → Option (List ℕ × List ℕ × List ℕ)
peer_in reserved p = option_and_then (λ q. closed (reserved, p.0, q.0) q.1) (array_after 20 p.1)

abbrev pub info_in : List ℕ × List ℕ → Option (List ℕ × List ℕ × List ℕ)
info_in p = option_and_then (peer_in p.0) (array_after 20 p.1)

abbrev pub handshake_in : List ℕ → Option (List ℕ × List ℕ × List ℕ)
handshake_in text = if bytes_eq (word_of text) (codes "handshake") then option_and_then info_in (array_after 8 (after_word text)) else None

abbrev pub bytes_of_parts : List ℕ × List ℕ × List ℕ → List ℕ
bytes_of_parts p = protocol ++ p.0 ++ p.1 ++ p.2

abbrev pub line_in : Bool → List ℕ → Option (List ℕ)
line_in true text = option_map bytes_of_parts (handshake_in text)
line_in false text = message_in text

-- ---- what reading answers

-- what was read, without where it lies in memory
abbrev pub seen : {A : Type 0} → Option (A × Bor (List ℕ)) → Option (A × List ℕ)
seen r = option_map (λ p. (p.0, p.1.now)) r

-- these bytes follow the old ones where there are some, and nothing does where there are none
abbrev pub Adds : Option (List ℕ) → List ℕ → List ℕ → Bool → Type 0
Adds read old new true = option_map (λ bytes. old ++ bytes) read ≡ Some new
Adds read old new false = (read ≡ None) × (new ≡ old)
