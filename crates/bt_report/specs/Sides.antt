-- The lines of one direction of a connection.
use Rattle.std.specs.Prelude.{ℕ, Bool, true, false, ◌==◌, List, [], ◌∷◌, ◌++◌, Option, Some, None, codes, decimal, is_some, nat_lt, unwrap_or, if◌then◌else◌}
use Rattle.hex.specs.Hex.{encode_lower}
use Rattle.bt_ext.specs.Ids.{metadata_id, donthave_id}
use Rattle.bt_remarks.specs.declared.events.Side.{Side}
use Rattle.bt_remarks.specs.declared.events.Side.TheVariants.{A, B}
use Rattle.bt_tcp.specs.declared.covered.Gap.{Gap}
use Rattle.bt_tcp.specs.declared.covered.Gaps.{Gaps}
use Rattle.bt_text.specs.contracts.ended.EndedPartialEq.TheImpl as ended_eq
use Rattle.bt_text.specs.declared.ended.Ended.{Ended}
use Rattle.bt_text.specs.declared.ended.Ended.TheVariants.{Accepted, Refused}
use Rattle.bt_wire.specs.declared.context.Own.{Own}
use Rattle.bt_wire.specs.declared.fault.Reason.{Reason}
use Rattle.bt_wire.specs.declared.fault.Reason.TheVariants.{EndInside}
use Rattle.bt_wire.specs.Numbers.{be64}
use Rattle.bt_report.specs.declared.report.Direction.{Direction}
use Rattle.bt_report.specs.declared.report.End.{End}
use Rattle.bt_report.specs.declared.report.End.TheVariants.{By, Half, Not}
use Rattle.bt_report.specs.declared.report.Judged.{Judged}
use Rattle.bt_report.specs.declared.report.Left.{Left}
use Rattle.bt_report.specs.declared.report.Left.TheVariants.{Open, Unread, Replaced}
use Rattle.bt_report.specs.declared.report.Sender.{Sender}
use Rattle.bt_report.specs.declared.report.Sender.TheVariants.{Unknown, Known}
use Rattle.bt_report.specs.Names.{title_text}
use Rattle.bt_rows.specs.Numbers.{option_text}
use Rattle.bt_rows.specs.Parts.{refusal_text, side_text}
use Rattle.bt_report.specs.Whys.{why_line}

-- ---- what a sender is called

abbrev pub called : Sender → List ℕ
called (Unknown sent) = codes " sent " ++ (decimal sent ++ codes " bytes and no whole handshake\n")
called (Known j) = codes " " ++ (title_text j.title ++ codes "\n")

abbrev pub sender_text : Side → Sender → List ℕ
sender_text side sender = codes "  " ++ (side_text side ++ called sender)

-- ---- what is odd in its bytes

abbrev pub exchange_text : ℕ → List ℕ
exchange_text n =
    if n == 0 then [] else codes "    handshake after " ++ (decimal n ++ codes " bytes of a key exchange; offsets count from it\n")

abbrev pub conflicts_text : ℕ → List ℕ
conflicts_text n = if n == 0 then [] else codes "    repeated with other bytes: " ++ (decimal n ++ codes "; the first ones count\n")

abbrev pub segments_word : ℕ → List ℕ
segments_word n = if n == 1 then codes " segment" else codes " segments"

-- how many segments were passed over, if any were
abbrev pub strays_text : ℕ → List ℕ
strays_text n = if n == 0 then [] else codes "    " ++ (decimal n ++ (segments_word n ++ codes " outside the window\n"))

-- how many gaps there are, if there is more than one
abbrev pub more_text : ℕ → ℕ → List ℕ
more_text count sum =
    if nat_lt count 2 then [] else codes "; " ++ (decimal count ++ (codes " gaps, " ++ (decimal sum ++ codes " bytes in all")))

-- Bytes of a final gap may be in the capture: too late to count.
abbrev pub late_text : Bool → List ℕ
late_text true = codes ", or came more than 15 MiB late"
late_text false = []

abbrev pub first_gap : Option Gap → List ℕ → List ℕ
first_gap None more = []
first_gap (Some gap) more =
    codes "    gap at " ++ (decimal gap.place ++ (codes ": " ++ (decimal gap.length ++ (codes " bytes aren't in the capture" ++ (more ++ codes "\n")))))

-- the first gap, whether it is final, and how many there are
abbrev pub gaps_text : Gaps → Bool → List ℕ
gaps_text gaps is_final = first_gap gaps.first (late_text is_final ++ more_text gaps.count gaps.sum)

-- ---- verdicts

abbrev pub verdict_text : Ended → List ℕ
verdict_text (Accepted messages bytes) = codes "ok messages=" ++ (decimal messages ++ (codes " bytes=" ++ decimal bytes))
verdict_text (Refused r) = refusal_text r

abbrev pub closed_by : Side → Side → List ℕ
closed_by A A = []
closed_by B B = []
closed_by closer side = codes "cut by the close of the other end"

abbrev pub left_note : Left → List ℕ
left_note Open = codes "cut by the capture's end"
left_note Unread = codes "cut: not read further"
left_note Replaced = codes "cut by a later connection"

abbrev pub half_closed_by : Side → Side → List ℕ
half_closed_by A A = []
half_closed_by B B = []
half_closed_by closer side = left_note Unread

abbrev pub open_or_closed : End → Side → List ℕ
open_or_closed (Not left) side = left_note left
open_or_closed (By closer) side = closed_by closer side
open_or_closed (Half closer) side = half_closed_by closer side

-- Why a side's stream may end inside a message for a reason that isn't its sender's: it has a gap, or the other side closed first,
-- or nobody closed.
abbrev pub cut_note : Bool → End → Side → List ℕ
cut_note true close side = codes "cut by the gap"
cut_note false close side = open_or_closed close side

-- such a reason matters only to a stream that ends inside a message
abbrev pub if_cut : Reason → List ℕ → List ℕ
if_cut EndInside cut = cut
if_cut reason cut = []

-- what a verdict is limited by
abbrev pub note : Ended → Bool → End → Side → List ℕ
note (Accepted messages bytes) has_gap close side = if has_gap then codes "up to the gap" else []
note (Refused r) has_gap close side = if_cut r.reason (cut_note has_gap close side)

abbrev pub note_text : List ℕ → List ℕ
note_text [] = []
note_text (byte ∷ bytes) = codes " (" ++ ((byte ∷ bytes) ++ codes ")")

abbrev pub verdict_line : List ℕ → Ended → List ℕ → List ℕ
verdict_line rules ended limit = rules ++ (verdict_text ended ++ (note_text limit ++ codes "\n"))

-- ---- the receiver

abbrev pub guess_text : Bool → List ℕ
guess_text true = codes " (guessed: its receiver's handshake isn't there)\n"
guess_text false = codes "\n"

-- the options of `bt_tool` that describe the receiver
abbrev pub options_text : Own → Bool → List ℕ
options_text own is_guessed =
    codes "    options --reserved " ++ (encode_lower (be64 own.reserved.0) ++ (codes " --metadata-id " ++ (decimal (unwrap_or (metadata_id own.reg) 0)
    ++ (option_text (codes " --donthave-id ") (donthave_id own.reg) ++ (option_text (codes " --pieces ") own.pieces ++ guess_text is_guessed)))))

-- ---- a direction

abbrev pub is_same : Ended → Ended → Bool
is_same = (ended_eq.ghosts).eq

-- what both rule sets refuse alike is explained once, after the strict rules' verdict
unfoldable pub free_text : Judged → List ℕ → List ℕ
free_text j limit =
    verdict_line (codes "    free ") j.free limit ++ (if is_same j.free j.bep then [] else why_line j.free limit j.free_message j.receiver)

unfoldable pub bep_text : Judged → List ℕ → List ℕ
bep_text j limit = verdict_line (codes "    bep  ") j.bep limit ++ why_line j.bep limit j.bep_message j.receiver

abbrev pub judged_text : Side → Bool → End → Judged → List ℕ
judged_text side has_gap close j =
    free_text j (note j.free has_gap close side) ++ (bep_text j (note j.bep has_gap close side) ++ options_text j.receiver j.is_guessed)

abbrev pub verdicts_text : Side → Bool → End → Sender → List ℕ
verdicts_text side has_gap close (Unknown sent) = []
verdicts_text side has_gap close (Known j) = judged_text side has_gap close j

-- `close` is how the connection ended
abbrev pub direction_text : Side → End → Direction → List ℕ
direction_text side close d =
    sender_text side d.sender ++ (exchange_text d.exchange ++ (conflicts_text d.conflicts ++ (strays_text d.strays
    ++ (gaps_text d.gaps d.is_final ++ verdicts_text side (is_some d.gaps.first) close d.sender))))
