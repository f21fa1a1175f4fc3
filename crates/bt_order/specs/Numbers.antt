-- Where a packet's number (BEP 29, seq_nr) stands: the packets of a direction are counted, and the first one has the index 2^16.
use Rattle.std.specs.Prelude.{◌≡◌, ℕ, ◌+◌, ◌<◌, ◌≤◌, ◌%◌, ◌^◌}

-- The index has the number, if the index 2^16 has the number `first`.
abbrev pub HasNumber : ℕ → ℕ → ℕ → Type 0
HasNumber first index number = (first + index) % 2 ^ 16 ≡ number

-- the one index within 2^15 of `near` that has it
pub record IsNearestNumber (first near number index : ℕ) : Type 0 where
  pub has : HasNumber first index number
  pub above : index < near + 2 ^ 15
  pub below : near ≤ index + 2 ^ 15

-- It is less than 4,096 after the next one or at most as much before it, and less than 2^62.
pub record IsInReach (next index : ℕ) : Type 0 where
  pub above : index < next + 4096
  pub below : next ≤ index + 4096
  pub counted : index < 2 ^ 62
