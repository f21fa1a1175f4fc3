-- The digits of an info hash.
use Rattle.std.specs.Prelude.{ℕ, ◌==◌, List, length, Option, if◌then◌else◌}
use Rattle.std.specs.Result.{result_ok}
use Rattle.hex.specs.Hex.{decode_sized}
use Rattle.bt_magnet.specs.Base32.{base32_of}

-- the bytes of 40 hex digits, or of 32 base32 digits (BEP 9)
abbrev pub hash_of : List ℕ → Option (List ℕ)
hash_of t = if length t == 40 then result_ok (decode_sized t 20) else base32_of t
