-- How much of a long file is read, as a terminal shows it.
use Rattle.std.specs.Prelude.{ℕ, ◌-◌, ◌/◌, Bool, nat_le, nat_lt, List, ◌++◌, codes, decimal}
use Rattle.bt_cli.specs.declared.reading.Shown.{Shown}

abbrev pub source_of : {R S E : Type 0} → Shown R S E → S
source_of w = w.source

abbrev pub is_long_by : ℕ → Bool
is_long_by size = nat_lt 67108864 size

-- a second after it was drawn
abbrev pub is_drawn_again : ℕ → ℕ → Bool
is_drawn_again drawn time = nat_le 1000 (time - drawn)

-- in units of 10^6 bytes
abbrev pub progress_words : ℕ → ℕ → List ℕ
progress_words read size = (((codes "capture: " ++ decimal (read / 1000000)) ++ codes " of ") ++ decimal (size / 1000000)) ++ codes " MB"
