-- The rows that a room has, and the bytes.
use Rattle.std.specs.Prelude.{ℕ, List, Option}
use Rattle.bt_remarks.specs.declared.events.Side.{Side}
use Rattle.bt_talk.specs.declared.room.Room.{Room}
use Rattle.bt_talk.specs.declared.rows.Heading.{Heading}
use Rattle.bt_talk.specs.declared.rows.Rows.{Rows}
use Rattle.bt_talk.specs.declared.rows.Showing.{Showing}

abbrev pub rows_in : Room → Rows
rows_in room = room.rows

-- the side whose bytes are handed out
abbrev pub wanted_in : Room → Option Side
wanted_in room = room.wanted

-- the bytes that are handed out
abbrev pub sent_in : Room → List ℕ
sent_in room = room.out.items

-- how rows are shown
abbrev pub showing_in : Room → Showing
showing_in room = room.rows.heading.showing

abbrev pub heading_by : Showing → ℕ → ℕ → Heading
heading_by showing connection start = record { showing = showing; connection = connection; start = start }
