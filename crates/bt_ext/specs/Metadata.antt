-- Metadata messages (BEP 9, "extension message").
use Rattle.std.specs.Prelude.{ℕ, ℤ, pos, negsuc, ◌+◌, ◌-◌, ◌*◌, ◌/◌, ◌==◌, Bool, true, false, Option, Some, None, option_and_then, nat_lt, if◌then◌else◌, codes}
use Rattle.bt_bencode.specs.Trees.{Tree}
use Rattle.bt_ext.specs.Fields.{int_at, up_to}
use Rattle.bt_ext.specs.declared.metadata.Kind.{Kind}
use Rattle.bt_ext.specs.declared.metadata.Kind.TheVariants as kind

-- a piece's number, of 32 bits
abbrev pub piece_of : Option ℤ → Option ℕ
piece_of o = option_and_then (up_to 4294967295) o

-- an integer as a number of at least 1
abbrev pub positive : ℤ → Option ℕ
positive (pos n) = if nat_lt 0 n then Some n else None
positive (negsuc n) = None

-- the size of the whole metadata
abbrev pub total_of : Option ℤ → Option ℕ
total_of o = option_and_then positive o

-- a request or a reject has a piece
abbrev pub of_piece : (ℕ → Kind) → Option ℕ → Kind
of_piece make None = kind.Malformed
of_piece make (Some piece) = make piece

-- a data message has a piece and a total size
abbrev pub of_data : Option ℕ → Option ℕ → Kind
of_data None total = kind.Malformed
of_data (Some piece) None = kind.Malformed
of_data (Some piece) (Some total) = kind.Data piece total

-- by `msg_type`: 0 is a request, 1 data, 2 a reject
abbrev pub kind_by : Option ℤ → Option ℤ → Option ℤ → Kind
kind_by None piece total = kind.Malformed
kind_by (Some (negsuc n)) piece total = kind.Other
kind_by (Some (pos n)) piece total =
    if n == 0 then of_piece kind.Request (piece_of piece) else
    (if n == 1 then of_data (piece_of piece) (total_of total) else
    (if n == 2 then of_piece kind.Reject (piece_of piece) else kind.Other))

-- the kind of the message that has this dictionary
abbrev pub kind_of : Tree → Kind
kind_of t = kind_by (int_at (codes "msg_type") t) (int_at (codes "piece") t) (int_at (codes "total_size") t)

abbrev pub is_malformed : Kind → Bool
is_malformed (kind.Request piece) = false
is_malformed (kind.Data piece total) = false
is_malformed (kind.Reject piece) = false
is_malformed kind.Other = false
is_malformed kind.Malformed = true

-- how many blocks metadata of a size has
abbrev pub block_count : ℕ → ℕ
block_count total = (total + 16383) / 16384

-- how long a block is: 16,384 bytes, and the last one has the rest
abbrev pub block_len : ℕ → ℕ → ℕ
block_len total piece = if nat_lt piece (block_count total - 1) then 16384 else total - 16384 * (block_count total - 1)

-- whether `n` bytes may follow the dictionary of a message of the kind
abbrev pub is_block_ok : Kind → ℕ → Bool
is_block_ok (kind.Request piece) n = n == 0
is_block_ok (kind.Data piece total) n = if nat_lt piece (block_count total) then n == block_len total piece else false
is_block_ok (kind.Reject piece) n = n == 0
is_block_ok kind.Other n = true
is_block_ok kind.Malformed n = true
