-- What the calls return.
use Rattle.std.specs.Prelude.{◌≡◌, ℕ, Bool, true, false, Result, Ok, Err}
use Rattle.bt_c.specs.Readers.{reason_number}
use Rattle.bt_end.specs.declared.end.TurnError.{TurnError}
use Rattle.bt_end.specs.declared.end.TurnError.TheVariants as turn_error
use Rattle.bt_end.specs.declared.config.EndError.{EndError}
use Rattle.bt_end.specs.declared.config.EndError.TheVariants as end_error
use Rattle.bt_end.specs.declared.end.BeginError.{BeginError}
use Rattle.bt_end.specs.declared.end.BeginError.TheVariants as begin_error
use Rattle.bt_end.specs.declared.end.Turn.{Turn}
use Rattle.bt_end.specs.declared.end.Turn.TheVariants.{Handled, Idle}
use Rattle.bt_c.specs.declared.check.BtVerdict.{BtVerdict}

abbrev pub status_of : Result Unit TurnError → ℕ
status_of (Ok x) = 0
status_of (Err (turn_error.Refused r)) = 2
status_of (Err turn_error.Busy) = 5
status_of (Err turn_error.Memory) = 6

abbrev pub made_status : EndError → ℕ
made_status end_error.BadLimit = 8
made_status end_error.BadConfig = 9
made_status end_error.BadSize = 10
made_status end_error.Memory = 6

-- a refusal is put down; else nothing is
abbrev pub ShowsStop : Result Unit TurnError → BtVerdict → BtVerdict → Type 0
ShowsStop (Err (turn_error.Refused r)) old new = (new.message ≡ r.message) × (new.at ≡ r.at) × (new.reason ≡ reason_number r.reason)
ShowsStop other old new = new ≡ old

abbrev pub begun_status : Result Bool BeginError → ℕ
begun_status (Ok true) = 0
begun_status (Ok false) = 14
begun_status (Err begin_error.Busy) = 5
begun_status (Err begin_error.Memory) = 6

-- a turn's: 1 for an item, 0 for none
abbrev pub turn_status : Result Turn TurnError → ℕ
turn_status (Ok Handled) = 1
turn_status (Ok Idle) = 0
turn_status (Err (turn_error.Refused r)) = 2
turn_status (Err turn_error.Busy) = 5
turn_status (Err turn_error.Memory) = 6

-- a refusal is put down; else nothing is
abbrev pub ShowsTurn : Result Turn TurnError → BtVerdict → BtVerdict → Type 0
ShowsTurn (Err e) old new = ShowsStop (Err e) old new
ShowsTurn (Ok turn) old new = new ≡ old
