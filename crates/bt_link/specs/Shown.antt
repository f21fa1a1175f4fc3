-- The lines that tell what came of a run.
use Rattle.std.specs.Global.{Vec}
use Rattle.std.specs.Prelude.{ℕ, ◌+◌, List, [], ◌∷◌, ◌++◌, length, codes, decimal, Option, Some, None}
use Rattle.std.specs.List.{flat_map}
use Rattle.hex.specs.Hex.{encode_lower}
use Rattle.sha1.specs.Sha1.{sha1}
use Rattle.bt_wire.specs.declared.fault.Fault.{Fault}
use Rattle.bt_wire.specs.declared.fault.Fault.TheVariants as faults
use Rattle.bt_wire.specs.declared.item.Item.{Item}
use Rattle.bt_wire.specs.declared.item.Refusal.{Refusal}
use Rattle.bt_end.specs.declared.end.SayError.{SayError}
use Rattle.bt_end.specs.declared.end.SayError.TheVariants as errors
use Rattle.bt_end.specs.Ends.{metadata_of}
use Rattle.bt_end.specs.Halves.{HalfState}
use Rattle.bt_session.specs.declared.link.Outcome.{Outcome}
use Rattle.bt_session.specs.declared.link.Outcome.TheVariants as outcomes
use Rattle.bt_session.specs.declared.run.Connection.{Connection}
use Rattle.bt_session.specs.declared.report.LinkReport.{LinkReport}
use Rattle.bt_session.specs.MessageLinks.{size}
use Rattle.bt_text.specs.Lines.{spaced, item_line}
use Rattle.bt_wire.specs.Reasons.{reason_name}

-- the items of a direction, each with its offset, as `show` prints them
abbrev pub item_lines : ℕ → List Item → List ℕ
item_lines at [] = []
item_lines at (i ∷ is) = item_line (at, i) ++ item_lines (at + size i) is

-- ---- what came of a step

abbrev pub fault_words : Fault → List ℕ
fault_words faults.Shape = codes "Shape"
fault_words (faults.Reason r) = reason_name r

abbrev pub say_error_words : SayError → List ℕ
say_error_words errors.NotOpen = codes "NotOpen"
say_error_words errors.Busy = codes "Busy"
say_error_words errors.Extended = codes "Extended"
say_error_words errors.PiecesUnknown = codes "PiecesUnknown"
say_error_words (errors.Illegal f) = codes "Illegal " ++ fault_words f
say_error_words errors.Memory = codes "Memory"

abbrev pub refusal_words : Refusal → List ℕ
refusal_words r = codes "refused message=" ++ (decimal r.message ++ (codes " at=" ++ (decimal r.at ++ (codes " " ++ reason_name r.reason))))

abbrev pub outcome_words : Outcome → List ℕ
outcome_words outcomes.Handled = codes "handled"
outcome_words outcomes.Idle = codes "idle"
outcome_words outcomes.Busy = codes "busy"
outcome_words (outcomes.Refused r) = refusal_words r
outcome_words outcomes.Said = codes "said"
outcome_words (outcomes.NotSaid e) = codes "not-said " ++ say_error_words e
outcome_words (outcomes.Delivered n) = codes "delivered" ++ spaced n
outcome_words outcomes.Reset = codes "reset"

abbrev pub outcome_line : Outcome → List ℕ
outcome_line o = outcome_words o ++ codes "\n"

-- ---- connections

-- how many items an end sent and handled, and those that it sent
abbrev pub side_lines : List ℕ → List Item → ℕ → List ℕ
side_lines name sent handled =
    name ++ (codes " sent=" ++ (decimal (length sent) ++ (codes " handled=" ++ (decimal handled ++ (codes "\n" ++ item_lines 0 sent)))))

-- what the left end and then the right one sent and handled
abbrev pub sides_lines : List (Vec Item) → List ℕ → List ℕ
sides_lines (left ∷ right ∷ []) (m ∷ n ∷ []) = side_lines (codes "left") left.items m ++ side_lines (codes "right") right.items n
sides_lines sent handled = []

abbrev pub connection_lines : ℕ → Connection → List ℕ
connection_lines n c = codes "connection" ++ (spaced n ++ (codes "\n" ++ sides_lines c.sent c.handled))

-- they are counted from n
abbrev pub connections_lines : ℕ → List Connection → List ℕ
connections_lines n [] = []
connections_lines n (c ∷ cs) = connection_lines n c ++ connections_lines (n + 1) cs

-- ---- metadata

abbrev pub metadata_words : Option (List ℕ) → List ℕ
metadata_words None = codes "-"
metadata_words (Some metadata) = codes "sha1=" ++ (encode_lower (sha1 metadata) ++ (codes " bytes=" ++ decimal (length metadata)))

-- what an end has fetched
abbrev pub metadata_line : List ℕ → HalfState → List ℕ
metadata_line name a = name ++ (codes " metadata " ++ (metadata_words (metadata_of a.end.part) ++ codes "\n"))

-- ---- a report

-- what the left end and then the right one have fetched
abbrev pub ends_lines : List HalfState → List ℕ
ends_lines (left ∷ right ∷ []) = metadata_line (codes "left") left ++ metadata_line (codes "right") right
ends_lines ends = []

abbrev pub report_lines : LinkReport → List ℕ
report_lines r = flat_map outcome_line r.outcomes.items ++ (connections_lines 1 r.connections.items ++ ends_lines r.ends)
