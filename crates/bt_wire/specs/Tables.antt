-- A table of faults: the first row that counts is the fault.
use Rattle.std.specs.Prelude.{ℕ, Bool, ◌&&◌, List, [], ◌∷◌, Option, Some, None, if◌then◌else◌}
use Rattle.bt_wire.specs.declared.fault.Reason.{Reason}
use Rattle.bt_wire.specs.declared.fault.Refused.{Refused}

-- a row: what is found, whether as many bytes as it is judged with are there, and its condition
pub record Row : Type 0 where
  pub found : Refused
  pub judged : Bool
  pub condition : Bool

abbrev pub row : Reason → ℕ → Bool → Bool → Row
row reason at judged condition = record { found = record { at = at; reason = reason }; judged = judged; condition = condition }

abbrev pub counts : Row → Bool
counts r = r.judged && r.condition

abbrev pub first_fault : List Row → Option Refused
first_fault [] = None
first_fault (r ∷ rows) = if counts r then Some r.found else first_fault rows
