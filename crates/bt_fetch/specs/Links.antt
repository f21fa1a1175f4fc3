-- How many connections a device gives out.
use Rattle.std.specs.Prelude.{ℕ, Option, Some, None}

-- how many connections a dial opens
abbrev pub opening : {L : Type 0} → Option L → ℕ
opening None = 0
opening (Some l) = 1
