-- The front of the rows of items, up to the item's offset, and what follows it.
use Rattle.std.specs.Prelude.{ℕ, ◌/◌, List, [], ◌++◌, codes, decimal, nat_eq, if◌then◌else◌}
use Rattle.bt_remarks.specs.declared.events.Remarks.{Remarks}
use Rattle.bt_rows.specs.declared.fronts.RowForm.{RowForm}
use Rattle.bt_rows.specs.declared.fronts.RowForm.TheVariants.{Text, Object}
use Rattle.bt_rows.specs.declared.fronts.Stamp.{Stamp}
use Rattle.bt_rows.specs.declared.rows.Deed.TheVariants.{Item}
use Rattle.bt_rows.specs.declared.rows.Row.{Row}
use Rattle.bt_rows.specs.declared.said.Said.{Said}
use Rattle.bt_rows.specs.declared.said.Words.{Words}
use Rattle.bt_rows.specs.Members.{words_members}
use Rattle.bt_rows.specs.Numbers.{four_digits, time_text}
use Rattle.bt_rows.specs.Rows.{clock_text, remarks_in, row_object, row_text}
use Rattle.bt_rows.specs.Said.{words_text}
use Rattle.bt_rows.specs.Parts.{side_text}

-- the text of rows
pub record Lines : Type 0 where
  pub items : List ℕ

-- the row of an item
abbrev pub item_row : Stamp → Said → Remarks → Row
item_row s said remarks = record { connection = s.connection; at = s.at; side = s.side; offset = said.offset; deed = Item said.words; remarks = remarks }

-- a row as text, or as a JSON object
abbrev pub text_by : RowForm → ℕ → Row → List ℕ
text_by Text packet row = row_text row
text_by Object packet row = row_object packet row

-- ---- its parts

abbrev pub line_front : Stamp → List ℕ
line_front s = decimal s.connection ++ (codes "  " ++ (clock_text s.at ++ (codes " " ++ (side_text s.side ++ codes " "))))

abbrev pub object_front : Stamp → List ℕ
object_front s =
    (codes "{\"connection\":" ++ (decimal s.connection ++ codes ",\"time\":")) ++ (time_text s.at
    ++ ((codes ",\"packet\":" ++ (decimal s.packet ++ codes ",\"side\":\"")) ++ (side_text s.side ++ codes "\",\"offset\":")))

abbrev pub front_by : RowForm → Stamp → List ℕ
front_by Text s = line_front s
front_by Object s = object_front s

abbrev pub front_text : Stamp → List ℕ
front_text s = front_by s.form s

-- an offset's digits but the last four, and the last four; `base` is the least offset with the same digits but the last four
abbrev pub high_text : ℕ → List ℕ
high_text base = if nat_eq base 0 then [] else decimal (base / 10000)

abbrev pub low_text : ℕ → ℕ → List ℕ
low_text base low = if nat_eq base 0 then decimal low else four_digits low

-- what follows the offset
abbrev pub line_end : Words → Remarks → List ℕ
line_end words remarks = codes " " ++ (words_text words ++ (remarks_in (codes "  (") (codes ", ") (codes ")") remarks ++ codes "\n"))

abbrev pub object_end : Words → Remarks → List ℕ
object_end words remarks = words_members words ++ (remarks_in (codes ",\"remarks\":[\"") (codes "\",\"") (codes "\"]") remarks ++ codes "}\n")
