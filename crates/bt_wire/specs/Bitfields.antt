-- Bitfields (BEP 3, "peer messages": "The first byte of the bitfield corresponds to indices 0 - 7 from high bit to low bit,
-- respectively. The next one 8-15, etc. Spare bits at the end are set to zero.").
use Rattle.std.specs.Prelude.{◌==◌, ℕ, ◌+◌, ◌/◌, ◌%◌, Bool, false, List, [], ◌∷◌, drop, Option, Some, None}
use Rattle.std.specs.List.{flat_map, list_any}

-- how many bytes a bit for each piece takes
abbrev pub field_bytes : ℕ → ℕ
field_bytes pieces = (pieces + 7) / 8

-- the bits of a byte, from high bit to low bit
abbrev pub bits_of : ℕ → List ℕ
bits_of b = b / 128 % 2 ∷ b / 64 % 2 ∷ b / 32 % 2 ∷ b / 16 % 2 ∷ b / 8 % 2 ∷ b / 4 % 2 ∷ b / 2 % 2 ∷ b % 2 ∷ []

-- whether the piece count is known and a bit past the last piece is 1
abbrev pub has_spare : Option ℕ → List ℕ → Bool
has_spare None field = false
has_spare (Some pieces) field = list_any (λ bit. bit == 1) (drop pieces (flat_map bits_of field))
