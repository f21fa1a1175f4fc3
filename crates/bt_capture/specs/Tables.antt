-- Connections by their ends.
use Rattle.std.specs.Prelude.{◌≡◌, ℕ, Bool, true, false, List, Some, Box}
use Rattle.std.specs.declared.alloc.Global.{Global}
use Rattle.std.specs.List.{IsDistinct}
use Rattle.std.specs.Map.{keys_of, lookup}
use Rattle.bt_talk.specs.Closing.{is_quiet}
use Rattle.bt_talk.specs.Talks.{closing_of, is_lost}
use Rattle.bt_capture.specs.declared.pair.Pair.{Pair}
use Rattle.bt_capture.specs.declared.connection.Connection.{Connection}
use Rattle.bt_capture.specs.contracts.pair.PairPartialEq.TheImpl as pair_eq

-- what `==` says of two keys
abbrev pub same_pair : Pair → Pair → Bool
same_pair = (pair_eq.ghosts).eq

-- No two have the same ends.
abbrev pub IsApart : {X : Type 0} → List (Pair × X) → Type 0
IsApart es = IsDistinct same_pair (keys_of es)

-- a connection, in memory of its own
abbrev pub Held : Type 0
Held = Box Connection Global

-- The connection between these ends, if there is one, has ended, and no segment of it came in the four seconds before this time. Memory didn't run out
-- with it.
abbrev pub IsQuiet : Pair → ℕ → List (Pair × Held) → Type 0
IsQuiet p nanos es = (c : Held) → lookup (same_pair p) es ≡ Some c
    → (is_lost c.value.talk ≡ false) × (is_quiet (closing_of c.value.talk).over nanos ≡ true)
