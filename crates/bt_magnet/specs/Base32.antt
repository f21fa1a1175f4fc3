-- Base32 (RFC 4648, section 6), as far as an info hash needs it: 32 digits, which write 20 bytes.
use Rattle.std.specs.Prelude.{ℕ, ◌+◌, ◌*◌, ◌-◌, ◌&&◌, ◌==◌, nat_le, List, ◌++◌, fold, length, take, drop, Option, Some, None, option_and_then}
use Rattle.std.specs.Prelude.{option_map, if◌then◌else◌}
use Rattle.std.specs.Int.{w64, to_be_bytes}

-- the value of a digit: `A` is 0 and `Z` 25, of either case, `2` is 26 and `7` is 31
abbrev pub digit_of : ℕ → Option ℕ
digit_of b =
    if nat_le 65 b && nat_le b 90 then Some (b - 65)
    else if nat_le 97 b && nat_le b 122 then Some (b - 97)
    else if nat_le 50 b && nat_le b 55 then Some (b - 24)
    else None

-- one more digit
abbrev pub extended : Option ℕ → ℕ → Option ℕ
extended n b = option_and_then (λ m. option_map (λ d. m * 32 + d) (digit_of b)) n

-- the number that digits write in the radix 32, the first one the highest
abbrev pub number_of : List ℕ → Option ℕ
number_of digits = fold extended (Some 0) digits

-- the five bytes of a group of eight digits, which are 40 bits
abbrev pub five_of : List ℕ → Option (List ℕ)
five_of digits = option_map (λ n. drop 3 (to_be_bytes w64 n)) (number_of digits)

abbrev pub joined : Option (List ℕ) → Option (List ℕ) → Option (List ℕ)
joined (Some front) (Some back) = Some (front ++ back)
joined (Some front) None = None
joined None back = None

-- the bytes of 32 digits, by their four groups
abbrev pub base32_of : List ℕ → Option (List ℕ)
base32_of t =
    if length t == 32
    then joined (joined (five_of (take 8 t)) (five_of (take 8 (drop 8 t)))) (joined (five_of (take 8 (drop 16 t))) (five_of (take 8 (drop 24 t))))
    else None
