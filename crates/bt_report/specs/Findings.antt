-- What a report's verdicts come to.
use Rattle.std.specs.Prelude.{Bool, true, false, ◌||◌, not, nat_lt, Option, Some, is_some, if◌then◌else◌}
use Rattle.bt_remarks.specs.declared.events.Side.{Side}
use Rattle.bt_remarks.specs.declared.events.Side.TheVariants.{A, B}
use Rattle.bt_text.specs.declared.ended.Ended.{Ended}
use Rattle.bt_text.specs.declared.ended.Ended.TheVariants.{Accepted, Refused}
use Rattle.bt_wire.specs.declared.fault.Reason.{Reason}
use Rattle.bt_wire.specs.declared.fault.Reason.TheVariants.{EndInside}
use Rattle.bt_report.specs.declared.finding.Finding.{Finding}
use Rattle.bt_report.specs.declared.finding.Finding.TheVariants as finding
use Rattle.bt_report.specs.declared.report.Body.{Body}
use Rattle.bt_report.specs.declared.report.Body.TheVariants as body
use Rattle.bt_report.specs.declared.report.Direction.{Direction}
use Rattle.bt_report.specs.declared.report.Left.{Left}
use Rattle.bt_report.specs.declared.report.Left.TheVariants.{Open, Unread, Replaced}
use Rattle.bt_report.specs.declared.report.Report.{Report}
use Rattle.bt_report.specs.declared.report.Sender.{Sender}
use Rattle.bt_report.specs.declared.report.Sender.TheVariants.{Unknown, Known}
use Rattle.bt_report.specs.declared.report.Told.{Told}
use Rattle.bt_report.specs.Reports.{closer}

abbrev pub closes_first : Option Side → Side → Bool
closes_first (Some A) A = true
closes_first (Some B) B = true
closes_first other side = false

-- A stream may end inside a message for a reason that isn't its sender's, unless it has no gap and its sender closed first.
abbrev pub may_be_cut : Bool → Option Side → Side → Bool
may_be_cut has_gap closer side = has_gap || not (closes_first closer side)

-- a stream that is cut has this reason
abbrev pub is_refused_for : Reason → Bool → Bool
is_refused_for EndInside is_cut = not is_cut
is_refused_for reason is_cut = true

abbrev pub is_refusal : Ended → Bool → Bool
is_refusal (Accepted messages bytes) is_cut = false
is_refusal (Refused r) is_cut = is_refused_for r.reason is_cut

abbrev pub is_sender_refused : Sender → Bool → Bool
is_sender_refused (Unknown sent) is_cut = false
is_sender_refused (Known j) is_cut = is_refusal j.free is_cut

-- the lenient rules refuse a direction, and not only because it was cut
abbrev pub is_refused_by : Side → Option Side → Direction → Bool
is_refused_by side closer d = is_sender_refused d.sender (may_be_cut (is_some d.gaps.first) closer side)

abbrev pub told_finding : Told → Finding
told_finding t =
    if is_refused_by A (closer t.closed) t.a || is_refused_by B (closer t.closed) t.b then finding.Refused else finding.Accepted

abbrev pub body_finding : Body → Finding
body_finding body.NotBitTorrent = finding.NotBitTorrent
body_finding (body.Told t) = told_finding t

abbrev pub finding_of : Report → Finding
finding_of r = body_finding r.body

-- ---- what was read in part only

-- It wasn't read further.
abbrev pub is_left_unread : Left → Bool
is_left_unread Open = false
is_left_unread Unread = true
is_left_unread Replaced = false

-- bytes and no whole handshake
abbrev pub is_sender_unread : Sender → Bool
is_sender_unread (Unknown sent) = nat_lt 0 sent
is_sender_unread (Known j) = false

abbrev pub is_partly_read : Direction → Bool
is_partly_read d = is_sender_unread d.sender || is_some d.gaps.first

abbrev pub told_partial : Told → Bool
told_partial t = (is_left_unread t.left || is_partly_read t.a) || is_partly_read t.b

abbrev pub body_partial : Body → Bool
body_partial body.NotBitTorrent = false
body_partial (body.Told t) = told_partial t

-- Only a part of a BitTorrent connection was read: a direction has a gap, or bytes and no whole handshake; or it wasn't read further.
abbrev pub is_partial : Report → Bool
is_partial r = body_partial r.body
