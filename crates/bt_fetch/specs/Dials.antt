-- For private contracts: the links of a fetch that were dialled and have no place yet.
use Rattle.std.specs.Prelude.{ℕ, ◌+◌, Option, Some, None}

-- how many more looks a slot may cost with its link, and the steps of a place that the link may take
abbrev pub burden : Option ℕ → ℕ
burden None = 0
burden (Some left) = left + 4294967298
