-- Counts that stay at 2^64 - 1.
use Rattle.std.specs.Prelude.{ℕ, ◌-◌, ◌^◌, min}

-- a count stays at 2^64 - 1
abbrev pub capped : ℕ → ℕ
capped n = min n (2 ^ 64 - 1)
