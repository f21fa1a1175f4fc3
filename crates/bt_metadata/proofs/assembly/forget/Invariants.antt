-- Those before this one are kept.
use Rattle.std.proofs.Common.{◌≡◌, ◌++◌, map, take, drop}
use Rattle.bt_metadata.specs.Sound.{kept_status}
use Rattle.bt_metadata.proofs.assembly.forget.Given as goal

abbrev pub invariant-loop-state : goal.invariant-loop-state
invariant-loop-state l = l.states ≡ map kept_status (take l.state-index l.fn.states) ++ drop l.state-index l.fn.states
