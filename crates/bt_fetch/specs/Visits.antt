-- For private contracts: one connection of a fetch from many peers.
use Rattle.std.specs.Prelude.{Bool, true, false, Result, Ok, ⊤}
use Rattle.bt_end.specs.Halves.{HalfState}
use Rattle.bt_fetch.specs.Outcomes.{IsOutcome}
use Rattle.bt_fetch.specs.declared.visit.Pace.{Pace}
use Rattle.bt_fetch.specs.declared.visit.Pace.TheVariants as pace

-- the connection goes on
abbrev pub goes_on : {E : Type 0} → Result Pace E → Bool
goes_on (Ok pace.Waits) = true
goes_on (Ok pace.GoesOn) = true
goes_on other = false

abbrev pub waits : {E : Type 0} → Result Pace E → Bool
waits (Ok pace.Waits) = true
waits other = false

-- where the fetch over it ended, it did so
abbrev pub IsEnded : {E : Type 0} → HalfState → Result Pace E → Type 0
IsEnded a (Ok (pace.Ended o)) = IsOutcome a o
IsEnded a other = ⊤
