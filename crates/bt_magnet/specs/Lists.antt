-- A list of peers: one a line.
use Rattle.std.specs.Prelude.{◌≡◌, ℕ, ◌==◌, ◌-◌, ◌<◌, nat_lt, Bool, List, map, filter, length, slice_get, Some, ⊤}
use Rattle.std.specs.List.{before_first}
use Rattle.std.specs.Str.{trim}
use Rattle.bt_magnet.specs.Peers.{IsPeer}
use Rattle.bt_magnet.specs.declared.list.ListError.{ListError}
use Rattle.bt_magnet.specs.declared.list.ListError.TheVariants as errors

-- what a line has before `#`, without the spaces around it
abbrev pub entry_of : List ℕ → List ℕ
entry_of line = trim (before_first (λ b. b == 35) line)

abbrev pub has_text : List ℕ → Bool
has_text t = nat_lt 0 (length t)

-- what the lines have that aren't blank
abbrev pub entries_of : List (List ℕ) → List (List ℕ)
entries_of ls = filter has_text (map entry_of ls)

-- the line with this number, counted from 1, has a text and names no peer
pub record IsWrongLine (ls : List (List ℕ)) (n : ℕ) : Type 0 where
  pub counted : 0 < n
  pub line : List ℕ
  pub is : slice_get ls (n - 1) ≡ Some line
  pub wrong : ¬ (IsPeer (entry_of line))
  pub told : 0 < length (entry_of line)

abbrev pub IsRefused : List (List ℕ) → ListError → Type 0
IsRefused ls (errors.Line n) = IsWrongLine ls n
IsRefused ls errors.Memory = ⊤
