-- Numbers as bytes, the highest byte first (BEP 3, "peer protocol": integers are four bytes big-endian).
use Rattle.std.specs.Prelude.{ℕ, ◌<◌, List, slice_index}
use Rattle.std.specs.Int.{w16, w32, w64, to_be_bytes, from_be_bytes}

-- the two bytes of a number below 2 ^ 16
abbrev pub be16 : ℕ → List ℕ
be16 n = to_be_bytes w16 n

-- the four bytes of a number below 2 ^ 32
abbrev pub be32 : ℕ → List ℕ
be32 n = to_be_bytes w32 n

-- the eight bytes of a number below 2 ^ 64
abbrev pub be64 : ℕ → List ℕ
be64 n = to_be_bytes w64 n

-- the number that the first two bytes say
unfoldable pub number16 : List ℕ → ℕ
number16 bytes = from_be_bytes w16 bytes

-- the number that the first four bytes say
unfoldable pub number32 : List ℕ → ℕ
number32 bytes = from_be_bytes w32 bytes

-- each is a number from 0 to 255
abbrev pub AreBytes : List ℕ → Type 0
AreBytes bytes = (i : ℕ) → slice_index bytes i < 256
