-- How a ring keeps the bytes that are ahead: a flag for each place says whether its byte has come.
use Rattle.std.specs.Prelude.{◌≡◌, ℕ, ◌+◌, ◌-◌, ◌<◌, ◌≤◌, ◌⊎◌, Bool, true, false, List, length, slice_index_or, Option, Some, None, if◌then◌else◌, nat_lt}
use Rattle.bt_tcp.specs.Bits.{places, flag}

-- where an offset lies in a ring
abbrev pub slot_of : ℕ → ℕ → ℕ → ℕ
slot_of capacity head k = if nat_lt k (capacity - head) then head + k else k - (capacity - head)

-- whether a byte has come
unfoldable pub is_known : List ℕ → ℕ → ℕ → Bool
is_known known head k = if nat_lt k (places known) then flag known (slot_of (places known) head k) else false

-- the ring's byte
abbrev pub ring : List ℕ → List ℕ → ℕ → ℕ → Option ℕ
ring known bytes head k = if is_known known head k then Some (slice_index_or bytes (slot_of (places known) head k) 0) else None

pub record IsRing (known bytes : List ℕ) (head : ℕ) : Type 0 where
  pub inside : head < places known
  pub same : length bytes ≡ places known

-- The bytes were written from an index on, they have come, and the rest is as before.
pub record IsWritten (known bytes : List ℕ) (from : ℕ) (part known' bytes' : List ℕ) : Type 0 where
  pub come : (j : ℕ) → j < length part → flag known' (from + j) ≡ true
  pub inside : (j : ℕ) → j < length part → slice_index_or bytes' (from + j) 0 ≡ slice_index_or part j 0
  pub outside : (i : ℕ) → (i < from) ⊎ (from + length part ≤ i) → (flag known' i ≡ flag known i) × (slice_index_or bytes' i 0 ≡ slice_index_or bytes i 0)
