-- The remarks on what a side sent.
use Rattle.std.specs.Prelude.{ℕ, List, [], ◌++◌, Option, Some, None, codes, decimal, nat_lt, if◌then◌else◌}
use Rattle.bt_remarks.specs.declared.events.Side.{Side}
use Rattle.bt_report.specs.declared.remarked.Remark.{Remark}
use Rattle.bt_report.specs.declared.remarked.Remark.TheVariants.{Unasked, Choked, Again, Unanswered, Elsewhere}
use Rattle.bt_rows.specs.declared.noted.Noted.{Noted}
use Rattle.bt_rows.specs.declared.noted.Remarked.{Remarked}
use Rattle.bt_rows.specs.Said.{said_text}
use Rattle.bt_rows.specs.Parts.{side_text}

-- one event
abbrev pub one_text : Remark → List ℕ
one_text Unasked = codes "an answer that nobody asked for"
one_text Choked = codes "a request while it was choked"
one_text Again = codes "a request again before its answer"
one_text Unanswered = codes "a request that got no answer"
one_text Elsewhere = codes "a have of a piece that never came here"

-- after the number of events
abbrev pub many_text : Remark → List ℕ
many_text Unasked = codes " answers that nobody asked for"
many_text Choked = codes " requests while it was choked"
many_text Again = codes " requests again before their answers"
many_text Unanswered = codes " requests that got no answer"
many_text Elsewhere = codes " haves of pieces that never came here"

abbrev pub how_many : Remark → ℕ → List ℕ
how_many remark count = if nat_lt count 2 then one_text remark else decimal count ++ (many_text remark ++ codes ", the first")

abbrev pub noted_text : Side → Remark → Option Noted → List ℕ
noted_text side remark None = []
noted_text side remark (Some noted) =
    codes "  " ++ (side_text side ++ (codes " sent " ++ (how_many remark noted.count ++ (codes ": " ++ (said_text noted.first ++ codes "\n")))))

abbrev pub remarked_text : Side → Remarked → List ℕ
remarked_text side r =
    noted_text side Unasked r.unasked ++ (noted_text side Choked r.choked ++ (noted_text side Again r.again
    ++ (noted_text side Unanswered r.unanswered ++ noted_text side Elsewhere r.elsewhere)))
