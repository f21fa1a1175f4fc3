-- What is said of a script after it is packed, besides the answer.
use Rattle.std.specs.Prelude.{◌≡◌, ◌==◌, ℕ, ◌+◌, Bool, true, false, List, [], ◌∷◌, Option, Some, None, option_map, MatchOption}
use Rattle.bt_text.specs.declared.ended.PackEnd.{PackEnd}
use Rattle.bt_text.specs.declared.ended.PackEnd.TheVariants.{Accepted, Refused}
use Rattle.bt_text.specs.declared.ended.ScriptReason.TheVariants.{Syntax, Reason}
use Rattle.bt_text.specs.declared.script.misfit.Misfit.{Misfit}
use Rattle.bt_text.specs.Misfits.{IsMisfitOr, IsDecimalBlock, HasNoDecimalBlock, misfit_line, block_line}
use Rattle.bt_jobs.specs.Packs.{IsSplit}

-- the hint of a line that is refused or not: which word is the first that can't stand there
abbrev pub IsMisfitHint : Bool → ℕ → List ℕ → Option (List ℕ) → Type 0
IsMisfitHint true number line hint = (m : Option Misfit) × IsMisfitOr (number == 1) line m × (hint ≡ option_map (misfit_line number) m)
IsMisfitHint false number line hint = hint ≡ None

-- The hint that the line with this number gives, counted from 1. A line that is refused as no line gives one, and in an accepted
-- script each line whose block is short and has only decimal digits.
abbrev pub IsLineHint : PackEnd → ℕ → List ℕ → Option (List ℕ) → Type 0
IsLineHint (Refused refused Syntax) number line hint = IsMisfitHint (refused == number) number line hint
IsLineHint (Refused refused (Reason r)) number line hint = hint ≡ None
IsLineHint (Accepted messages bytes) number line hint =
    MatchOption hint (HasNoDecimalBlock line) (λ h. (block : List ℕ) × IsDecimalBlock line block × (h ≡ block_line number block))

-- the first hint that these lines give; if the text is all of the script, what no line feed ends is the last line
abbrev pub IsFirstHint : PackEnd → ℕ → List (List ℕ) → List ℕ → Bool → Option (List ℕ) → Type 0
IsFirstHint end number [] rest true hint = IsLineHint end number rest hint
IsFirstHint end number [] rest false hint = hint ≡ None
IsFirstHint end number (line ∷ lines) rest is_all hint =
    (here : Option (List ℕ)) × IsLineHint end number line here × MatchOption here (IsFirstHint end (number + 1) lines rest is_all hint) (λ h. hint ≡ Some h)

-- the first hint that the lines of a text give, the first of which has this number
abbrev pub IsPackHint : PackEnd → Bool → ℕ → List ℕ → Option (List ℕ) → Type 0
IsPackHint end is_all number text hint =
    (lines : List (List ℕ)) × (rest : List ℕ) × IsSplit text lines rest × IsFirstHint end number lines rest is_all hint
