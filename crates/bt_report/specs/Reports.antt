-- A report on a connection.
use Rattle.std.specs.Prelude.{ℕ, List, ◌++◌, Option, Some, None, codes, decimal}
use Rattle.bt_packet.specs.Addresses.{address_text}
use Rattle.bt_remarks.specs.declared.events.Side.{Side}
use Rattle.bt_remarks.specs.declared.events.Side.TheVariants.{A, B}
use Rattle.bt_report.specs.declared.report.Body.{Body}
use Rattle.bt_report.specs.declared.report.Body.TheVariants as body
use Rattle.bt_report.specs.declared.report.Closed.{Closed}
use Rattle.bt_report.specs.declared.report.Report.{Report}
use Rattle.bt_report.specs.declared.report.End.{End}
use Rattle.bt_report.specs.declared.report.End.TheVariants.{By, Half, Not}
use Rattle.bt_report.specs.declared.report.Left.{Left}
use Rattle.bt_report.specs.declared.report.Left.TheVariants.{Open, Unread, Replaced}
use Rattle.bt_report.specs.declared.report.Told.{Told}
use Rattle.bt_report.specs.Closings.{closing_text}
use Rattle.bt_report.specs.Remarked.{remarked_text}
use Rattle.bt_report.specs.Sides.{direction_text}

-- the side that closed first
abbrev pub closer : Option Closed → Option Side
closer None = None
closer (Some c) = Some c.first

-- how the connection ended
abbrev pub closed_end : Left → Side → End
closed_end Open side = By side
closed_end Unread side = Half side
closed_end Replaced side = By side

abbrev pub end_by : Option Closed → Left → End
end_by None left = Not left
end_by (Some c) left = closed_end left c.first

abbrev pub told_text : Told → List ℕ
told_text t =
    direction_text A (end_by t.closed t.left) t.a ++ (direction_text B (end_by t.closed t.left) t.b
    ++ (closing_text t.a.gaps.first t.b.gaps.first t.closed t.left ++ (remarked_text A t.remarked_a ++ remarked_text B t.remarked_b)))

abbrev pub body_text : Body → List ℕ
body_text body.NotBitTorrent = codes "  no BitTorrent handshake: encrypted, another protocol, or its start isn't in the capture\n"
body_text (body.Told t) = codes "\n" ++ told_text t

abbrev pub report_text : Report → List ℕ
report_text r =
    (codes "connection " ++ (decimal r.number ++ codes "  A "))
    ++ ((address_text r.a ++ (codes " > B " ++ address_text r.b)) ++ body_text r.body)
