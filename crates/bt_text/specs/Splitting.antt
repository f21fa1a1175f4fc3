-- A text and its first line.
use Rattle.std.specs.Prelude.{◌≡◌, ℕ, false, List, ◌∷◌, ◌++◌, Option, Some, None}
use Rattle.bt_text.specs.Script.{has_feed}

-- where a text's first line ends: what stands before the line feed and after it
abbrev pub IsCut : List ℕ → Option (List ℕ × List ℕ) → Type 0
IsCut text None = has_feed text ≡ false
IsCut text (Some p) = (text ≡ p.0 ++ 10 ∷ p.1) × (has_feed p.0 ≡ false)
