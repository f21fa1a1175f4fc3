-- A row: something that one side did, at its time.
use Rattle.std.specs.Prelude.{ℕ, ◌/◌, Bool, true, false, ◌||◌, List, [], ◌++◌, codes, decimal, nat_lt, if◌then◌else◌}
use Rattle.bt_remarks.specs.declared.events.Remarks.{Remarks}
use Rattle.bt_rows.specs.declared.rows.Deed.{Deed}
use Rattle.bt_rows.specs.declared.rows.Deed.TheVariants.{Item, Refused, Gap, Closed}
use Rattle.bt_rows.specs.declared.rows.Row.{Row}
use Rattle.bt_text.specs.declared.ended.Ended.TheVariants as ended_by
use Rattle.bt_rows.specs.Parts.{means_text}
use Rattle.bt_rows.specs.Members.{verdict_members, words_members}
use Rattle.bt_rows.specs.Numbers.{time_text}
use Rattle.bt_rows.specs.Said.{words_text}
use Rattle.bt_rows.specs.Parts.{refusal_text, side_text}

-- spaces so that the seconds end in the fourth column
abbrev pub pad_text : ℕ → List ℕ
pad_text seconds =
    if nat_lt seconds 10 then codes "   " else if nat_lt seconds 100 then codes "  " else if nat_lt seconds 1000 then codes " " else []

abbrev pub clock_text : ℕ → List ℕ
clock_text nanoseconds = pad_text (nanoseconds / 1000000000) ++ time_text nanoseconds

abbrev pub deed_text : Deed → List ℕ
deed_text (Item words) = words_text words
deed_text (Refused r) = refusal_text r
deed_text (Gap n) = codes "(gap of " ++ (decimal n ++ codes " bytes; nothing after it is shown)")
deed_text (Closed by) = codes "(" ++ (means_text by ++ codes ")")

-- a remark's name, if the row has it, after `between` if another one stands before it
abbrev pub name_if : Bool → Bool → List ℕ → List ℕ → List ℕ → List ℕ
name_if true has_one front between name = (if has_one then between else front) ++ name
name_if false has_one front between name = []

abbrev pub back_if : Bool → List ℕ → List ℕ
back_if has_one back = if has_one then back else []

-- the names with `between` between them, and before and after them `front` and `back`
abbrev pub remarks_in : List ℕ → List ℕ → List ℕ → Remarks → List ℕ
remarks_in front between back r =
    name_if r.unasked false front between (codes "unasked") ++ (name_if r.choked r.unasked front between (codes "choked")
    ++ (name_if r.again (r.unasked || r.choked) front between (codes "again")
    ++ (name_if r.elsewhere ((r.unasked || r.choked) || r.again) front between (codes "elsewhere")
    ++ back_if (((r.unasked || r.choked) || r.again) || r.elsewhere) back)))

abbrev pub row_text : Row → List ℕ
row_text r =
    decimal r.connection ++ (codes "  " ++ (clock_text r.at ++ (codes " " ++ (side_text r.side ++ ((codes " " ++ (decimal r.offset ++ codes " "))
    ++ (deed_text r.deed ++ (remarks_in (codes "  (") (codes ", ") (codes ")") r.remarks ++ codes "\n")))))))

-- ---- as a JSON object (RFC 8259) on a line

-- a refusal has its own offset
abbrev pub deed_members : ℕ → Deed → List ℕ
deed_members offset (Item words) = codes ",\"offset\":" ++ (decimal offset ++ words_members words)
deed_members offset (Refused r) = codes "," ++ verdict_members (ended_by.Refused r)
deed_members offset (Gap n) = codes ",\"offset\":" ++ (decimal offset ++ (codes ",\"gap\":" ++ decimal n))
deed_members offset (Closed by) = codes ",\"offset\":" ++ (decimal offset ++ (codes ",\"closed\":\"" ++ (means_text by ++ codes "\"")))

-- what `show --json` has of it, after the connection, the time in seconds, the packet and the side, and before the remarks
abbrev pub row_object : ℕ → Row → List ℕ
row_object packet r =
    (codes "{\"connection\":" ++ (decimal r.connection ++ codes ",\"time\":")) ++ (time_text r.at
    ++ ((codes ",\"packet\":" ++ (decimal packet ++ codes ",\"side\":\""))
    ++ (side_text r.side ++ (codes "\"" ++ (deed_members r.offset r.deed
    ++ (remarks_in (codes ",\"remarks\":[\"") (codes "\",\"") (codes "\"]") r.remarks ++ codes "}\n"))))))
