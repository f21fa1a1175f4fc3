-- The reports of connections, in order, and what they add up to.
use Rattle.std.specs.Prelude.{◌≡◌, ◌==◌, ◌&&◌, ◌||◌, not, ℕ, ◌^◌, ◌-◌, min, Bool, true, false, Option, Some, None, List, [], ◌∷◌, ◌++◌, length, if◌then◌else◌}
use Rattle.std.specs.List.{flat_map, filter, list_any}
use Rattle.std.specs.Io.KnownBytes.{Appends}
use Rattle.std.specs.Str.{bytes_eq}
use Rattle.bt_packet.specs.declared.address.Address.{Address}
use Rattle.bt_packet.specs.declared.address.Host.{Host}
use Rattle.bt_packet.specs.declared.address.Host.TheVariants.{V4, V6}
use Rattle.bt_io.specs.Seen.{TargetSeen, AppendsPrefix, WriteFailed}
use Rattle.bt_report.specs.Findings.{finding_of, is_partial}
use Rattle.bt_report.specs.Objects.{report_object}
use Rattle.bt_report.specs.Reports.{report_text}
use Rattle.bt_talk.specs.Rows.{Shown, shown_texts}
use Rattle.bt_talk.specs.Inside.{AreEndRows}
use Rattle.bt_talk.specs.Pasts.{Past}
use Rattle.bt_talk.specs.Rooms.{heading_by}
use Rattle.bt_talk.specs.Shown.{Turn}
use Rattle.bt_talk.specs.Talks.{HasHeard, IsTalk}
use Rattle.bt_talk.specs.declared.talk.Talk.{Talk}
use Rattle.bt_report.specs.declared.finding.Finding.{Finding}
use Rattle.bt_report.specs.declared.finding.Finding.TheVariants as finding
use Rattle.bt_report.specs.declared.report.Left.{Left}
use Rattle.bt_report.specs.declared.report.Report.{Report}
use Rattle.bt_capture.specs.declared.choice.Choice.{Choice}
use Rattle.bt_capture.specs.declared.choice.Peer.{Peer}
use Rattle.bt_capture.specs.declared.ending.Form.{Form}
use Rattle.bt_capture.specs.declared.telling.Teller.{Teller}
use Rattle.bt_capture.specs.Forms.{showing_by, is_stream}
use Rattle.bt_capture.specs.Reportings.{IsReportOf}

-- ---- a report on a connection

abbrev pub is_told_with : Finding → Bool
is_told_with finding.NotBitTorrent = false
is_told_with finding.Accepted = true
is_told_with finding.Refused = true

-- It is a BitTorrent connection.
abbrev pub is_told : Report → Bool
is_told r = is_told_with (finding_of r)

abbrev pub is_refused_with : Finding → Bool
is_refused_with finding.NotBitTorrent = false
is_refused_with finding.Accepted = false
is_refused_with finding.Refused = true

-- A direction is refused under the lenient rules.
abbrev pub is_refused : Report → Bool
is_refused r = is_refused_with (finding_of r)

-- ---- which reports are told

abbrev pub is_same_host : Host → Host → Bool
is_same_host (V4 a) (V4 b) = bytes_eq a b
is_same_host (V6 a) (V6 b) = bytes_eq a b
is_same_host (V4 a) (V6 b) = false
is_same_host (V6 a) (V4 b) = false

abbrev pub is_port : Option ℕ → ℕ → Bool
is_port None port = true
is_port (Some wanted) port = wanted == port

-- The end has the host that is wanted and, if a port is wanted, this port.
abbrev pub is_end : Peer → Address → Bool
is_end peer end = is_same_host peer.host end.host && is_port peer.port end.port

-- A is the wanted end, or B is; or no end is wanted.
abbrev pub has_end : Option Peer → Report → Bool
has_end None r = true
has_end (Some peer) r = is_end peer r.a || is_end peer r.b

-- A report is told if it meets each condition.
abbrev pub is_chosen : Choice → Report → Bool
is_chosen choice r = (not choice.refused || is_refused r) && has_end choice.peer r

abbrev pub chosen_by : Form → List Report → List Report
chosen_by form reports = filter (is_chosen form.choice) reports

-- ---- reports in order

-- a report as text, or as a JSON object
abbrev pub text_by : Bool → Report → List ℕ
text_by false r = report_text r
text_by true r = report_object r

abbrev pub texts : Bool → List Report → List ℕ
texts json reports = flat_map (text_by json) reports

-- ---- reports, and rows or a stream's bytes between them

-- a report, or rows of what sides of connections did, or bytes of a stream
pub data Part : Type 0 where
  OfReport : Report → Part
  OfRows : List Shown → Part
  OfBytes : List ℕ → Part

abbrev pub report_of_part : Part → List Report
report_of_part (OfReport r) = r ∷ []
report_of_part (OfRows rows) = []
report_of_part (OfBytes bytes) = []

abbrev pub rows_of_part : Part → List Shown
rows_of_part (OfReport r) = []
rows_of_part (OfRows rows) = rows
rows_of_part (OfBytes bytes) = []

-- The row is of the connection with this number.
abbrev pub is_row_of : ℕ → Shown → Bool
is_row_of n s = s.row.connection == n

-- the rows of the connection with this number
abbrev pub rows_of : ℕ → List Part → List Shown
rows_of n parts = filter (is_row_of n) (flat_map rows_of_part parts)

-- A report has no text if only a stream is told, or if it isn't chosen.
abbrev pub report_by : Form → Report → List ℕ
report_by form r = if is_stream form then [] else if is_chosen form.choice r then text_by form.json r else []

abbrev pub part_text : Form → Part → List ℕ
part_text form (OfReport r) = report_by form r
part_text form (OfRows rows) = shown_texts (showing_by form) rows
part_text form (OfBytes bytes) = if is_stream form then bytes else []

-- The text is that of these parts, of which these are the reports.
abbrev pub ArePartsOf : Form → List Report → List ℕ → List Part → Type 0
ArePartsOf form reports text parts = (flat_map report_of_part parts ≡ reports) × (text ≡ flat_map (part_text form) parts)

-- The text is that of those reports that are chosen, in order, and of rows before, between and after them. If only a stream is told it is its bytes.
pub record AreTexts (form : Form) (reports : List Report) (text : List ℕ) : Type 0 where
  pub parts : List Part
  pub reports_are : flat_map report_of_part parts ≡ reports
  pub is : text ≡ flat_map (part_text form) parts

-- ---- what reports add up to

-- how many are of BitTorrent connections, at most 2 ^ 64 - 1
abbrev pub count_torrents : List Report → ℕ
count_torrents reports = min (length (filter is_told reports)) (2 ^ 64 - 1)

abbrev pub is_one_refused : List Report → Bool
is_one_refused reports = list_any is_refused reports

abbrev pub is_one_partial : List Report → Bool
is_one_partial reports = list_any is_partial reports

-- These reports were taken, and what they add up to is known. These bytes are written: with what is kept they are the texts of the reports that are
-- chosen, and of rows, or a stream's bytes.
pub record Tells (start now : TargetSeen) (t : Teller) (reports : List Report) (written : List ℕ) : Type 0 where
  pub whole : AreTexts t.form reports (written ++ t.text.items)
  pub held : Appends start.held now.held written
  pub calm : now.failed ≡ start.failed
  pub torrents : t.torrents ≡ count_torrents reports
  pub refused : t.is_refused ≡ is_one_refused (chosen_by t.form reports)
  pub partial : t.is_partial ≡ is_one_partial (chosen_by t.form reports)

-- A write failed: the first part of the texts is written.
pub record IsStopped (form : Form) (start now : TargetSeen) (reports : List Report) (text : List ℕ) : Type 0 where
  pub texts_are : AreTexts form reports text
  pub front : AppendsPrefix start.held now.held text
  pub failed : WriteFailed start now

-- The same reports are told, and the same bytes are written.
abbrev pub TellsOn : Teller → Teller → Type 0
TellsOn t t' = (start now : TargetSeen) (reports : List Report) (written : List ℕ) → Tells start now t reports written → Tells start now t' reports written

-- One report more is told: on the connection with this number, in a capture that starts at this time. The same bytes are written.
abbrev pub Says : Teller → Teller → (number from : ℕ) → Left → Talk → Type 0
Says t t' number from left talk =
    (r : Report) × ((a b : Past) (turns : List Turn) → IsTalk a b talk → HasHeard turns a b talk → IsReportOf number from left a b talk turns r)
    × ((start now : TargetSeen) (reports : List Report) (written : List ℕ) → Tells start now t reports written → Tells start now t' (reports ++ r ∷ []) written)
    × (t'.text.items ≡ t.text.items ++ report_by t.form r)

-- As Says. These bytes of a stream are told first, then these rows and those of the connection's end, and then the report.
abbrev pub SaysAfter : Teller → Teller → (number from : ℕ) → Left → Talk → List ℕ → List Shown → Type 0
SaysAfter t t' number from left talk bytes rows =
    (r : Report) × ((a b : Past) (turns : List Turn) → IsTalk a b talk → HasHeard turns a b talk → IsReportOf number from left a b talk turns r)
    × ((start now : TargetSeen) (reports : List Report) (written : List ℕ) → Tells start now t reports written → Tells start now t' (reports ++ r ∷ []) written)
    × (last : List Shown) × ((a b : Past) → IsTalk a b talk → AreEndRows (heading_by (showing_by t.form) number from) a b talk last)
    × (t'.text.items ≡ t.text.items ++ ((bytes ++ shown_texts (showing_by t.form) (rows ++ last)) ++ report_by t.form r))

-- All is written.
abbrev pub IsEmpty : Teller → Type 0
IsEmpty t = t.text.items ≡ []
