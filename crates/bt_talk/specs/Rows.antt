-- The rows of what the sides of a connection do, as text.
use Rattle.std.specs.Prelude.{ℕ, ◌-◌, List, []}
use Rattle.std.specs.List.{flat_map}
use Rattle.bt_remarks.specs.declared.events.Remarks.{Remarks}
use Rattle.bt_remarks.specs.declared.events.Side.{Side}
use Rattle.bt_rows.specs.declared.rows.Deed.{Deed}
use Rattle.bt_rows.specs.declared.rows.Row.{Row}
use Rattle.bt_rows.specs.Rows.{row_text, row_object}
use Rattle.bt_talk.specs.declared.closing.When.{When}
use Rattle.bt_talk.specs.declared.rows.Heading.{Heading}
use Rattle.bt_talk.specs.declared.rows.Showing.{Showing}
use Rattle.bt_talk.specs.declared.rows.Showing.TheVariants.{Nothing, Text, Objects}

-- a row, and the number of its packet in the capture
pub record Shown : Type 0 where
  pub packet : ℕ
  pub row : Row

-- a row as text, or as a JSON object
abbrev pub shown_text : Showing → Shown → List ℕ
shown_text Nothing s = []
shown_text Text s = row_text s.row
shown_text Objects s = row_object s.packet s.row

abbrev pub shown_texts : Showing → List Shown → List ℕ
shown_texts showing rows = flat_map (shown_text showing) rows

-- what a side did with a packet; the time counts from the capture's start
abbrev pub row_at : Heading → When → Side → ℕ → Deed → Remarks → Shown
row_at h when side offset deed remarks = record {
  packet = when.packet;
  row = record { connection = h.connection; at = when.nanos - h.start; side = side; offset = offset; deed = deed; remarks = remarks };
}
