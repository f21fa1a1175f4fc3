-- What `--stream` names: a connection, counted from 0, and one of its sides.
use Rattle.std.specs.Prelude.{ℕ, ◌==◌, List, codes, Option, Some, None, option_and_then, option_map, if◌then◌else◌}
use Rattle.std.specs.List.{after_first, before_first}
use Rattle.std.specs.Str.{bytes_eq}
use Rattle.bt_remarks.specs.declared.events.Side.{Side}
use Rattle.bt_remarks.specs.declared.events.Side.TheVariants.{A, B}
use Rattle.bt_run.specs.Options.{number_in}

abbrev pub side_named : List ℕ → Option Side
side_named t = if bytes_eq t (codes "A") then Some A else if bytes_eq t (codes "B") then Some B else None

-- before the first hyphen a number, and after it a side's name
abbrev pub direction_in : List ℕ → Option (ℕ × Side)
direction_in t =
    option_and_then (λ side. option_map (λ n. (n, side)) (number_in 0 4294967295 (before_first (λ b. b == 45) t)))
    (side_named (after_first (λ b. b == 45) t))
