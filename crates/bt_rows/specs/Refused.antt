-- What is there of a message that is refused.
use Rattle.std.specs.Prelude.{ℕ, ◌+◌, ◌-◌, List, [], ◌∷◌, Option, None, drop, length, nat_lt, slice_get, if◌then◌else◌}
use Rattle.bt_wire.specs.Numbers.{number32}
use Rattle.bt_rows.specs.declared.refused.RefusedMessage.{RefusedMessage}

-- the first byte, or 0
abbrev pub first_or_zero : List ℕ → ℕ
first_or_zero [] = 0
first_or_zero (byte ∷ bytes) = byte

-- the number that the first four bytes say, or 0
abbrev pub number_or_zero : List ℕ → ℕ
number_or_zero bytes = if nat_lt (length bytes) 4 then 0 else number32 bytes

-- the byte at this place of a message of this length prefix
abbrev pub byte_inside : ℕ → ℕ → List ℕ → Option ℕ
byte_inside size place bytes = if nat_lt place (4 + size) then slice_get bytes place else None

-- of the bytes from the message's start on, for a refusal at `at`
abbrev pub message_in : ℕ → List ℕ → ℕ → RefusedMessage
message_in start bytes at = record {
  start = start;
  length = number_or_zero bytes;
  id = first_or_zero (drop 4 bytes);
  ext = first_or_zero (drop 5 bytes);
  index = number_or_zero (drop (at - start) bytes);
  byte = byte_inside (number_or_zero bytes) (at - start) bytes;
}
