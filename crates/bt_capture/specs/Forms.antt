-- How a capture is told.
use Rattle.std.specs.Prelude.{◌==◌, ℕ, Bool, true, false, nat_le, List, [], Option, Some, None, is_some, if◌then◌else◌}
use Rattle.bt_remarks.specs.declared.events.Side.{Side}
use Rattle.bt_talk.specs.declared.room.Room.{Room}
use Rattle.bt_talk.specs.declared.rows.Showing.{Showing}
use Rattle.bt_talk.specs.declared.rows.Showing.TheVariants.{Nothing, Text, Objects}
use Rattle.bt_talk.specs.Rooms.{sent_in}
use Rattle.bt_capture.specs.declared.ending.Form.{Form}

abbrev pub showing_in : (show json : Bool) → Showing
showing_in false json = Nothing
showing_in true false = Text
showing_in true true = Objects

-- Only one side's stream is told.
abbrev pub is_stream : Form → Bool
is_stream form = is_some form.stream

-- how rows are shown
abbrev pub showing_by : Form → Showing
showing_by form = if is_stream form then Nothing else showing_in form.show form.json

abbrev pub side_of : ℕ → Option (ℕ × Side) → Option Side
side_of n None = None
side_of n (Some s) = if s.0 == n then Some s.1 else None

-- the side whose stream is told, if it is one of the connection with this number
abbrev pub wanted_by : Form → ℕ → Option Side
wanted_by form n = side_of n form.stream

-- of the bytes that a room has those that are told, if they are of the connection with this number
abbrev pub handed : Form → ℕ → Room → List ℕ
handed form n room = if is_some (wanted_by form n) then sent_in room else []

abbrev pub number_from : ℕ → Option (ℕ × Side) → Option ℕ
number_from n None = None
number_from n (Some s) = if nat_le n s.0 then Some s.0 else None

-- the number of the connection whose stream is told, if it is none of the first n connections, which are numbered from 0
abbrev pub absent_from : Form → ℕ → Option ℕ
absent_from form n = number_from n form.stream
