use Rattle.std.proofs.Common.{◌≡◌, ◌∙◌, sym, subst, ap, ◌++◌, List, Ok, OnOk, append-nil}
use Rattle.std.specs.declared.alloc.AllocError.{AllocError}
use Rattle.bt_io.specs.Counts.{counted}
use Rattle.bt_packet.specs.Tcp.{segment}
use Rattle.bt_packet.specs.Utp.{UtpPacket}
use Rattle.bt_utp.specs.States.{AreCounted}
use Rattle.bt_utp.specs.Turnings.{AreLinked}
use Rattle.bt_capture.specs.FlowTexts.{datagrams_in}
use Rattle.bt_capture.proofs.FlowLines.{ok_any}
use Rattle.bt_capture.specs.Arrivals.{is_no_segment, with_packet}
use Rattle.bt_capture.specs.declared.run.Run.{Run}
use Rattle.bt_capture.specs.Following.{Follows, since}
use Rattle.bt_capture.specs.Runs.{TakesSeen}
use Rattle.bt_capture.proofs.Arriving.{saw_other, saw_segment}
use Rattle.bt_capture.specs.Sights.{seen}
use Rattle.bt_capture.specs.Unread.{unread_packets, why_in}
use Rattle.bt_capture.specs.declared.sight.Sight.{Sight}
use Rattle.bt_capture.proofs.run.Run.take_sight.Goals as goal

pub returns-in-Segment-clause-goes : goal.returns-in-Segment-clause-goes
returns-in-Segment-clause-goes c start now clock t xs came new packet within linked i =
    let w = c.args.when in
    let run : Run = record c.args.self.now { connections = c.take_segment.new.self } in
    let P : Sight → Type 0 = λ s. TakesSeen (since start c.args.from) now (with_packet w clock) t xs came (seen s) w run c.take_segment.result in
    subst P (sym c.in-Segment.is) (saw_segment (since start c.args.from) now (with_packet w clock) t xs came (segment c.in-Segment.segment) w run c.take_segment.result linked
    (c.take_segment.ensures.goes start now clock came new packet within i))

pub returns-in-Segment-clause-utp : goal.returns-in-Segment-clause-utp
returns-in-Segment-clause-utp c =
    let utp = c.args.self.now.utp in
    let P : Sight → Type 0 = λ s. OnOk c.take_segment.result ((ds : List UtpPacket) → AreCounted ds utp → AreCounted (ds ++ datagrams_in (seen s)) utp) in
    subst P (sym c.in-Segment.is) (ok_any c.take_segment.result (λ ds are. subst (λ l. AreCounted l utp) (sym (append-nil ds)) are))

pub returns-in-Utp-clause-goes : goal.returns-in-Utp-clause-goes
returns-in-Utp-clause-goes c start now clock t xs came new packet within linked i =
    let w = c.args.when in
    let P : Sight → Type 0 = λ s.
    TakesSeen (since start c.args.from) now (with_packet w clock) t xs came (seen s) w c.take_utp.new.self c.take_utp.result in
    subst P (sym c.in-Utp.is) (c.take_utp.ensures.goes start now clock t xs came new packet within linked i)

pub returns-in-Utp-clause-utp : goal.returns-in-Utp-clause-utp
returns-in-Utp-clause-utp c =
    let P : Sight → Type 0 = λ s.
    OnOk c.take_utp.result ((ds : List UtpPacket) → AreCounted ds c.args.self.now.utp → AreCounted (ds ++ datagrams_in (seen s)) c.take_utp.new.self.utp) in
    subst P (sym c.in-Utp.is) c.take_utp.ensures.utp

pub returns-in-Other-clause-goes : goal.returns-in-Other-clause-goes
returns-in-Other-clause-goes c start now clock t xs came new packet within linked i =
    let w = c.args.when in
    let run : Run = record c.skip.new.self { unread = c.count.new.self } in
    let from = since start c.args.from in
    let F : Run → Type 0 = λ r. AreLinked t xs r.links × Follows from now clock came r.connections.table r.connections in
    let was = subst F (sym c.skip.ensures) (linked, i) in
    let P : Sight → Type 0 = λ s. TakesSeen {E = AllocError} from now (with_packet w clock) t xs came (seen s) w run (Ok tt) in
    subst P (sym c.in-Other.is) (saw_other AllocError from now clock t xs came c.in-Other.why w run was.0 was.1)

pub returns-in-Utp-clause-skipped : goal.returns-in-Utp-clause-skipped
returns-in-Utp-clause-skipped c =
    let P : Sight → Type 0 = λ s. c.take_utp.new.self.skipped ≡ counted (is_no_segment (seen s)) c.args.self.now.skipped in
    subst P (sym c.in-Utp.is) c.take_utp.ensures.skipped

pub returns-in-Other-clause-skipped : goal.returns-in-Other-clause-skipped
returns-in-Other-clause-skipped c =
    let P : Sight → Type 0 = λ s. c.skip.new.self.skipped ≡ counted (is_no_segment (seen s)) c.args.self.now.skipped in
    subst P (sym c.in-Other.is) (ap (λ (r : Run). r.skipped) c.skip.ensures)

pub returns-in-Segment-clause-unread : goal.returns-in-Segment-clause-unread
returns-in-Segment-clause-unread c ws is =
    let P : Sight → Type 0 = λ s. c.args.self.now.unread ≡ unread_packets (ws ++ why_in (seen s)) in
    subst P (sym c.in-Segment.is) (is ∙ ap unread_packets (sym (append-nil ws)))

pub returns-in-Utp-clause-unread : goal.returns-in-Utp-clause-unread
returns-in-Utp-clause-unread c ws is =
    let P : Sight → Type 0 = λ s. c.take_utp.new.self.unread ≡ unread_packets (ws ++ why_in (seen s)) in
    subst P (sym c.in-Utp.is) (c.take_utp.ensures.unread ∙ is ∙ ap unread_packets (sym (append-nil ws)))

pub returns-in-Other-clause-unread : goal.returns-in-Other-clause-unread
returns-in-Other-clause-unread c ws is =
    let P : Sight → Type 0 = λ s. c.count.new.self ≡ unread_packets (ws ++ why_in (seen s)) in
    subst P (sym c.in-Other.is) (c.count.ensures ws (ap (λ (r : Run). r.unread) c.skip.ensures ∙ is))
