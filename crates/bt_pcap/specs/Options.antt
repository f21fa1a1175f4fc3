-- The options of an interface (draft-ietf-opsawg-pcapng 3.5 and 4.2).
use Rattle.std.specs.Prelude.{◌≡◌, ◌≢◌, ℕ, zero, suc, ◌+◌, ◌*◌, ◌/◌, ◌^◌, ◌<◌, ◌==◌, ◌&&◌, ℤ, pos, FitsSigned, Bool, true, false, List, [], ◌∷◌, ◌++◌, length, take}
use Rattle.std.specs.Prelude.{drop, slice_index_or, Option, Some, None, if◌then◌else◌, nat_lt}
use Rattle.std.specs.Int.{w64}
use Rattle.bt_pcap.specs.declared.numbers.Order.{Order}
use Rattle.bt_pcap.specs.Numbers.{u16, i64, number16, signed64}

-- the length of a value with its padding, up to four bytes
abbrev pub padded : ℕ → ℕ
padded size = (size + 3) / 4 * 4

-- whether an option is the one that is looked for: it has its code, and a value of its length
abbrev pub is_option : ℕ → ℕ → ℕ → ℕ → Bool
is_option wanted long code size = code == wanted && size == long

-- ---- as they are written

-- An option of another kind: code, length of the value, value, padding.
pub record Other : Type 0 where
  pub code : ℕ
  pub value : List ℕ
  pub padding : List ℕ

pub record IsOther (wanted long : ℕ) (o : Other) : Type 0 where
  pub code_fits : o.code < 2 ^ 16
  pub not_last : o.code ≢ 0
  pub length_fits : length o.value < 2 ^ 16
  pub aligned : length o.value + length o.padding ≡ padded (length o.value)
  pub other : is_option wanted long o.code (length o.value) ≡ false

abbrev pub option : Order → Other → List ℕ → List ℕ
option order o rest = u16 order o.code ++ (u16 order (length o.value) ++ (o.value ++ (o.padding ++ rest)))

-- The bytes are these options, and then the rest.
abbrev pub Follows : Order → ℕ → ℕ → List Other → List ℕ → List ℕ → Type 0
Follows order wanted long [] bytes rest = bytes ≡ rest
Follows order wanted long (o ∷ os) bytes rest =
    (mid : List ℕ) × IsOther wanted long o × (bytes ≡ option order o mid) × Follows order wanted long os mid rest

-- No option follows: there are fewer than four bytes, or the option opt_endofopt, of code 0, or the value isn't there with its padding. Of the option
-- that is looked for the value is enough.
pub data Ends (order : Order) (wanted long : ℕ) (bytes : List ℕ) : Type 0 where
  few : length bytes < 4 → Ends order wanted long bytes
  last : (size : ℕ) (rest : List ℕ) → size < 2 ^ 16 → bytes ≡ u16 order 0 ++ (u16 order size ++ rest) → Ends order wanted long bytes
  cut : (code size : ℕ) (value : List ℕ) → code < 2 ^ 16 → size < 2 ^ 16 → bytes ≡ u16 order code ++ (u16 order size ++ value) → length value < padded size
      → (is_option wanted long code size ≡ true → length value < long) → Ends order wanted long bytes

-- The value of the first option that has this code and a value of this length, if there is one.
pub data HasValue (order : Order) (wanted long : ℕ) (bytes : List ℕ) (v : Option (List ℕ)) : Type 0 where
  found : (others : List Other) (value rest : List ℕ) → Follows order wanted long others bytes (u16 order wanted ++ (u16 order long ++ (value ++ rest)))
      → length value ≡ long → v ≡ Some value → HasValue order wanted long bytes v
  missing : (others : List Other) (rest : List ℕ) → Follows order wanted long others bytes rest → Ends order wanted long rest → v ≡ None
      → HasValue order wanted long bytes v

-- The option if_tsresol: code 9, one byte. Without it time stamps count microseconds, as if it were 6.
pub data HasResolution (order : Order) (bytes : List ℕ) (v : ℕ) : Type 0 where
  given : HasValue order 9 1 bytes (Some (v ∷ [])) → HasResolution order bytes v
  microseconds : HasValue order 9 1 bytes None → v ≡ 6 → HasResolution order bytes v

-- The option if_tsoffset: code 14, a signed number of eight bytes. So many seconds are added to each time stamp; without it none.
pub data HasOffset (order : Order) (bytes : List ℕ) (seconds : ℤ) : Type 0 where
  shifted : FitsSigned w64 seconds → HasValue order 14 8 bytes (Some (i64 order seconds)) → HasOffset order bytes seconds
  unshifted : HasValue order 14 8 bytes None → seconds ≡ pos 0 → HasOffset order bytes seconds

-- ---- as they are read

-- the first bytes, if there are as many
abbrev pub front_of : ℕ → List ℕ → Option (List ℕ)
front_of long bytes = if nat_lt (length bytes) long then None else Some (take long bytes)

-- the value of the first option of that kind among the first n options
abbrev pub value_in : ℕ → Order → ℕ → ℕ → List ℕ → Option (List ℕ)
value_in zero order wanted long bytes = None
value_in (suc n) order wanted long bytes =
    if nat_lt (length bytes) 4 then None
    else if number16 order bytes == 0 then None
    else if is_option wanted long (number16 order bytes) (number16 order (drop 2 bytes)) then front_of long (drop 2 (drop 2 bytes))
    else if nat_lt (length (drop 2 (drop 2 bytes))) (padded (number16 order (drop 2 bytes))) then None
    else value_in n order wanted long (drop (padded (number16 order (drop 2 bytes))) (drop 2 (drop 2 bytes)))

unfoldable pub value_of : Order → ℕ → ℕ → List ℕ → Option (List ℕ)
value_of order wanted long bytes = value_in (length bytes) order wanted long bytes

abbrev pub resolution_by : Option (List ℕ) → ℕ
resolution_by None = 6
resolution_by (Some value) = slice_index_or value 0 6

abbrev pub offset_by : Order → Option (List ℕ) → ℤ
offset_by order None = pos 0
offset_by order (Some value) = signed64 order value

abbrev pub resolution_of : Order → List ℕ → ℕ
resolution_of order bytes = resolution_by (value_of order 9 1 bytes)

abbrev pub offset_of : Order → List ℕ → ℤ
offset_of order bytes = offset_by order (value_of order 14 8 bytes)
