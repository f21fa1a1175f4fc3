use Rattle.std.proofs.Common.{◌≡◌, ◌∙◌, ℕ, List, [], ◌∷◌, ◌++◌, Some, ap, subst}
use Rattle.bt_packet.specs.Tcp.{TcpSegment, segment}
use Rattle.bt_capture.specs.Arrivals.{turned_segment, with_packet}
use Rattle.bt_capture.specs.Following.{Goes, since}
use Rattle.bt_capture.proofs.run.Run.take_turned.Goals as goal

pub returns-clause-goes : goal.returns-clause-goes
returns-clause-goes c start now clock came new packet within i =
    let all = c.take_segment.new.self in
    let told = c.args.told.now in
    let w = c.args.when in
    let same : segment c.segment_of-segment.result ≡ turned_segment told.connection told.is_initiator told.turned c.args.self.now.links.bytes.items =
    c.segment_of-segment.ensures ∙ ap (λ (l : List ℕ). turned_segment told.connection told.is_initiator told.turned l) c.bytes.ensures in
    let P : TcpSegment → Type 0 = λ s.
    Goes (since start c.args.from) now (with_packet w clock) (came ++ record { segment = s; when = w; link = Some told.connection.number } ∷ []) all.table all
    c.take_segment.result in
    subst P same (c.take_segment.ensures.goes start now clock came new packet within i)
