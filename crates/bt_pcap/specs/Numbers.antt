-- Numbers of two, four and eight bytes in the byte order of a file or a section.
use Rattle.std.specs.Prelude.{ℕ, ◌<◌, ℤ, List, slice_index}
use Rattle.std.specs.Int.{w16, w32, w64, cast_signed, cast_unsigned, to_le_bytes, to_be_bytes, from_le_bytes, from_be_bytes}
use Rattle.bt_pcap.specs.declared.numbers.Order.{Order}
use Rattle.bt_pcap.specs.declared.numbers.Order.TheVariants.{Little, Big}

-- the two bytes of a number below 2 ^ 16
abbrev pub u16 : Order → ℕ → List ℕ
u16 Little n = to_le_bytes w16 n
u16 Big n = to_be_bytes w16 n

-- the four bytes of a number below 2 ^ 32
abbrev pub u32 : Order → ℕ → List ℕ
u32 Little n = to_le_bytes w32 n
u32 Big n = to_be_bytes w32 n

-- the eight bytes of a signed number from -2 ^ 63 to 2 ^ 63 - 1
abbrev pub i64 : Order → ℤ → List ℕ
i64 Little z = to_le_bytes w64 (cast_unsigned w64 z)
i64 Big z = to_be_bytes w64 (cast_unsigned w64 z)

-- the number that the first two bytes say
unfoldable pub number16 : Order → List ℕ → ℕ
number16 Little bytes = from_le_bytes w16 bytes
number16 Big bytes = from_be_bytes w16 bytes

-- the number that the first four bytes say
unfoldable pub number32 : Order → List ℕ → ℕ
number32 Little bytes = from_le_bytes w32 bytes
number32 Big bytes = from_be_bytes w32 bytes

-- the signed number that the first eight bytes say
unfoldable pub signed64 : Order → List ℕ → ℤ
signed64 Little bytes = cast_signed w64 (from_le_bytes w64 bytes)
signed64 Big bytes = cast_signed w64 (from_be_bytes w64 bytes)

-- each is a number from 0 to 255
abbrev pub AreBytes : List ℕ → Type 0
AreBytes bytes = (i : ℕ) → slice_index bytes i < 256
