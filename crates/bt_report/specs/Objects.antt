-- A report as a JSON object (RFC 8259) on a line. What isn't known is left out.
use Rattle.std.specs.Prelude.{ℕ, Bool, true, false, ◌==◌, List, [], ◌∷◌, ◌++◌, Option, Some, None, codes, decimal, is_some, if◌then◌else◌}
use Rattle.hex.specs.Hex.{encode_lower}
use Rattle.bt_ext.specs.Ids.{metadata_id, donthave_id}
use Rattle.bt_packet.specs.Addresses.{address_text}
use Rattle.bt_remarks.specs.declared.events.Side.{Side}
use Rattle.bt_remarks.specs.declared.events.Side.TheVariants.{A, B}
use Rattle.bt_tcp.specs.declared.covered.Gap.{Gap}
use Rattle.bt_text.specs.declared.ended.Ended.{Ended}
use Rattle.bt_text.specs.declared.ended.Ended.TheVariants as ended_by
use Rattle.bt_wire.specs.declared.context.Own.{Own}
use Rattle.bt_wire.specs.Numbers.{be64}
use Rattle.bt_report.specs.declared.report.Before.{Before}
use Rattle.bt_report.specs.declared.report.Body.{Body}
use Rattle.bt_report.specs.declared.report.Body.TheVariants as body
use Rattle.bt_report.specs.declared.report.Closed.{Closed}
use Rattle.bt_report.specs.declared.report.Direction.{Direction}
use Rattle.bt_report.specs.declared.report.End.{End}
use Rattle.bt_rows.specs.declared.noted.Last.{Last}
use Rattle.bt_rows.specs.declared.noted.Last.TheVariants.{Nothing, Item, Refused}
use Rattle.bt_report.specs.declared.report.Left.{Left}
use Rattle.bt_report.specs.declared.report.Left.TheVariants.{Open, Unread, Replaced}
use Rattle.bt_rows.specs.declared.noted.Noted.{Noted}
use Rattle.bt_rows.specs.declared.noted.Remarked.{Remarked}
use Rattle.bt_report.specs.declared.report.Report.{Report}
use Rattle.bt_report.specs.declared.report.Sender.{Sender}
use Rattle.bt_report.specs.declared.report.Sender.TheVariants.{Unknown, Known}
use Rattle.bt_report.specs.declared.report.Told.{Told}
use Rattle.bt_rows.specs.declared.refused.RefusedMessage.{RefusedMessage}
use Rattle.bt_rows.specs.Parts.{means_text}
use Rattle.bt_rows.specs.Members.{escaped, said_object, verdict_members}
use Rattle.bt_report.specs.Names.{title_text}
use Rattle.bt_rows.specs.Numbers.{option_text, time_text}
use Rattle.bt_report.specs.Reports.{end_by}
use Rattle.bt_report.specs.Sides.{note}
use Rattle.bt_rows.specs.Parts.{side_text}
use Rattle.bt_report.specs.Whys.{why_text}

-- ---- a direction

abbrev pub sender_member : Sender → List ℕ
sender_member (Unknown sent) = codes "{\"sent\":" ++ decimal sent
sender_member (Known j) = codes "{\"name\":\"" ++ (escaped (title_text j.title) ++ codes "\"")

-- a count of something that is odd
abbrev pub count_member : List ℕ → ℕ → List ℕ
count_member words n = if n == 0 then [] else words ++ decimal n

-- bytes of a final gap may be in the capture: too late to count
abbrev pub final_member : Bool → List ℕ
final_member true = codes ",\"final\":true"
final_member false = []

-- the first gap, and whether it is final; how many there are, and how many bytes they have
abbrev pub gap_members : Option Gap → Bool → ℕ → ℕ → List ℕ
gap_members None is_final count sum = []
gap_members (Some gap) is_final count sum =
    codes ",\"gap\":{\"offset\":" ++ (decimal gap.place ++ (codes ",\"bytes\":" ++ (decimal gap.length ++ (final_member is_final
    ++ (codes "},\"gaps\":" ++ (decimal count ++ (codes ",\"missing\":" ++ decimal sum)))))))

-- the sentence on a refusal that nothing limits
abbrev pub why_member : Ended → List ℕ → Option RefusedMessage → Own → List ℕ
why_member (ended_by.Refused r) [] (Some m) own = codes ",\"why\":\"" ++ (escaped (why_text r m own) ++ codes "\"")
why_member ended limit m own = []

-- what a verdict is limited by
abbrev pub note_member : List ℕ → List ℕ
note_member [] = []
note_member (byte ∷ bytes) = codes ",\"note\":\"" ++ ((byte ∷ bytes) ++ codes "\"")

abbrev pub verdict_object : List ℕ → Ended → List ℕ → Option RefusedMessage → Own → List ℕ
verdict_object key ended limit m own =
    key ++ (verdict_members ended ++ (why_member ended limit m own ++ (note_member limit ++ codes "}")))

abbrev pub guess_member : Bool → List ℕ
guess_member true = codes ",\"guessed\":true}"
guess_member false = codes "}"

abbrev pub receiver_object : Own → Bool → List ℕ
receiver_object own is_guessed =
    codes ",\"receiver\":{\"reserved\":\"" ++ (encode_lower (be64 own.reserved.0) ++ (codes "\""
    ++ (option_text (codes ",\"metadata_id\":") (metadata_id own.reg) ++ (option_text (codes ",\"donthave_id\":") (donthave_id own.reg)
    ++ (option_text (codes ",\"pieces\":") own.pieces ++ guess_member is_guessed)))))

abbrev pub judged_members : Side → Bool → End → Sender → List ℕ
judged_members side has_gap close (Unknown sent) = []
judged_members side has_gap close (Known j) =
    verdict_object (codes ",\"free\":{") j.free (note j.free has_gap close side) j.free_message j.receiver
    ++ (verdict_object (codes ",\"bep\":{") j.bep (note j.bep has_gap close side) j.bep_message j.receiver
    ++ receiver_object j.receiver j.is_guessed)

-- ---- remarks

abbrev pub noted_member : List ℕ → Option Noted → List ℕ
noted_member key None = []
noted_member key (Some noted) = (key ++ (decimal noted.count ++ codes ",\"first\":")) ++ (said_object noted.first ++ codes "}")

abbrev pub remarked_members : Remarked → List ℕ
remarked_members r =
    noted_member (codes ",\"unasked\":{\"count\":") r.unasked ++ (noted_member (codes ",\"choked\":{\"count\":") r.choked
    ++ (noted_member (codes ",\"again\":{\"count\":") r.again ++ (noted_member (codes ",\"unanswered\":{\"count\":") r.unanswered
    ++ noted_member (codes ",\"elsewhere\":{\"count\":") r.elsewhere)))

-- what is odd in its bytes
abbrev pub odd_members : Direction → List ℕ
odd_members d =
    count_member (codes ",\"exchange\":") d.exchange ++ (count_member (codes ",\"conflicts\":") d.conflicts
    ++ count_member (codes ",\"strays\":") d.strays)

abbrev pub direction_object : Side → End → Direction → Remarked → List ℕ
direction_object side close d remarked =
    sender_member d.sender ++ (odd_members d
    ++ (gap_members d.gaps.first d.is_final d.gaps.count d.gaps.sum ++ (judged_members side (is_some d.gaps.first) close d.sender
    ++ (remarked_members remarked ++ codes "}"))))

-- ---- the close

abbrev pub last_member : Last → List ℕ
last_member Nothing = []
last_member (Item said) = codes ",\"last\":" ++ said_object said
last_member (Refused r) = codes ",\"last\":{" ++ (verdict_members (ended_by.Refused r) ++ codes "}")

abbrev pub before_member : List ℕ → Option Before → List ℕ
before_member key None = []
before_member key (Some b) = (key ++ decimal b.sent) ++ (last_member b.last ++ codes "}")

abbrev pub left_member : Left → List ℕ
left_member Open = []
left_member Unread = codes ",\"not_read_further\":true"
left_member Replaced = codes ",\"replaced\":true"

abbrev pub unread_member : Left → List ℕ
unread_member Open = []
unread_member Unread = left_member Unread
unread_member Replaced = []

abbrev pub closed_member : Option Closed → Left → List ℕ
closed_member None left = left_member left
closed_member (Some c) left =
    codes ",\"closed\":{\"side\":\"" ++ (side_text c.first ++ (codes "\",\"by\":\"" ++ (means_text c.by ++ (codes "\",\"time\":" ++ (time_text c.at
    ++ (before_member (codes ",\"a\":{\"sent\":") c.a ++ (before_member (codes ",\"b\":{\"sent\":") c.b ++ (codes "}" ++ unread_member left))))))))

-- ---- a report

abbrev pub told_members : Told → List ℕ
told_members t =
    codes ",\"from_a\":" ++ (direction_object A (end_by t.closed t.left) t.a t.remarked_a ++ (codes ",\"from_b\":"
    ++ (direction_object B (end_by t.closed t.left) t.b t.remarked_b ++ (closed_member t.closed t.left ++ codes "}\n"))))

abbrev pub body_members : Body → List ℕ
body_members body.NotBitTorrent = codes "\",\"bittorrent\":false}\n"
body_members (body.Told t) = codes "\",\"bittorrent\":true" ++ told_members t

abbrev pub report_object : Report → List ℕ
report_object r =
    (codes "{\"connection\":" ++ (decimal r.number ++ codes ",\"a\":\""))
    ++ ((address_text r.a ++ (codes "\",\"b\":\"" ++ address_text r.b)) ++ body_members r.body)
