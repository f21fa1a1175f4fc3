-- Flags, a bit each: the flag k is the bit k % 8 of the byte k / 8, and the bit 0 is the lowest.
use Rattle.std.specs.Prelude.{◌≡◌, ◌==◌, ℕ, ◌+◌, ◌*◌, ◌/◌, ◌%◌, ◌^◌, ◌<◌, ◌≤◌, ◌⊎◌, Bool, List, length, slice_index_or, if◌then◌else◌}

-- how many flags there are
abbrev pub places : List ℕ → ℕ
places bits = 8 * length bits

abbrev pub bit : ℕ → ℕ → Bool
bit byte i = byte / 2 ^ i % 2 == 1

unfoldable pub flag : List ℕ → ℕ → Bool
flag bits k = bit (slice_index_or bits (k / 8) 0) (k % 8)

-- a byte of eight flags that are alike
abbrev pub whole : Bool → ℕ
whole value = if value then 255 else 0

-- The flags from one on up to another have a value, and the rest are as before.
pub record IsFilled (bits : List ℕ) (from to : ℕ) (value : Bool) (bits' : List ℕ) : Type 0 where
  pub inside : (k : ℕ) → from ≤ k → k < to → flag bits' k ≡ value
  pub outside : (k : ℕ) → (k < from) ⊎ (to ≤ k) → flag bits' k ≡ flag bits k

-- Flags were copied from one on to another on, and the rest are as before.
pub record IsCopiedTo (bits : List ℕ) (from count : ℕ) (to : List ℕ) (at : ℕ) (to' : List ℕ) : Type 0 where
  pub inside : (k : ℕ) → k < count → flag to' (at + k) ≡ flag bits (from + k)
  pub outside : (k : ℕ) → (k < at) ⊎ (at + count ≤ k) → flag to' k ≡ flag to k
