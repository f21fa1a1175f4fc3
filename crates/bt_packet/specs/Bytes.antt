-- Bytes as numbers, and what follows them.
use Rattle.std.specs.Prelude.{ℕ, nat_le, List, [], ◌∷◌, length, drop, Option, Some, None, if◌then◌else◌}
use Rattle.std.specs.Int.{w16, w32, from_be_bytes, from_le_bytes}

-- the number of two bytes
abbrev pub word : ℕ → ℕ → ℕ
word a b = from_be_bytes w16 (a ∷ b ∷ [])

-- the number of four bytes
abbrev pub long_word : ℕ → ℕ → ℕ → ℕ → ℕ
long_word a b c d = from_be_bytes w32 (a ∷ b ∷ c ∷ d ∷ [])

-- the same, the low byte first
abbrev pub low_word : ℕ → ℕ → ℕ
low_word a b = from_le_bytes w16 (a ∷ b ∷ [])

abbrev pub low_long_word : ℕ → ℕ → ℕ → ℕ → ℕ
low_long_word a b c d = from_le_bytes w32 (a ∷ b ∷ c ∷ d ∷ [])

-- what follows the first n bytes
abbrev pub after : ℕ → List ℕ → Option (List ℕ)
after n bytes = if nat_le n (length bytes) then Some (drop n bytes) else None
