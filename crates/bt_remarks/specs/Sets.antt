-- The bits of a bitfield (BEP 3, "peer messages": the first byte has the bits of the pieces 0 to 7, from the high bit to the low bit).
use Rattle.std.specs.Prelude.{◌==◌, ℕ, ◌-◌, ◌/◌, ◌%◌, ◌^◌, ◌||◌, Bool, List, slice_index, nat_lt, if◌then◌else◌}

-- whether the piece's bit is 1
abbrev pub has_bit : List ℕ → ℕ → Bool
has_bit field piece = slice_index field (piece / 8) / 2 ^ (7 - piece % 8) % 2 == 1

-- Pieces from here on aren't noted.
abbrev pub is_noted : ℕ → Bool
is_noted piece = nat_lt piece (2 ^ 23)

-- whether a set has the piece, after another was noted
abbrev pub with_piece : ℕ → ℕ → Bool → Bool
with_piece noted piece before = if noted == piece then is_noted piece || before else before

-- whether a set has the piece, after those of a bitfield were noted
abbrev pub with_field : List ℕ → ℕ → Bool → Bool
with_field field piece before = if is_noted piece then has_bit field piece || before else before
