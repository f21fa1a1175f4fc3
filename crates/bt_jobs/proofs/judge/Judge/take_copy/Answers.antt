use Rattle.std.proofs.Common.{◌≡◌, true, false, Ok, refl, sym, ap, ◌∙◌}
use Rattle.bt_wire.specs.declared.context.Order.TheVariants.{Fresh}
use Rattle.bt_wire.specs.Messages.{message_of}
use Rattle.bt_feed.specs.declared.stage.Stage.TheVariants as stage
use Rattle.bt_feed.specs.Feeds.{waiting}
use Rattle.bt_jobs.specs.declared.judge.Judge.TheInside.{Inside}
use Rattle.bt_jobs.proofs.Judging.{judged_as, hand_longer, hand_taken, message_refused, message_open, message_longer, message_taken}
use Rattle.bt_jobs.proofs.judge.Judge.take_copy.Goals as goal
use Rattle.bt_jobs.proofs.judge.Judge.take_copy.Goals.{in-Refused-read_front, in-Partial-read_front, in-Whole-read_front+else-bytes-size}

pub returns-then-bytes-gt68 : goal.returns-then-bytes-gt68
returns-then-bytes-gt68 g c =
    let own = c.in-Handshake.own in
    let t = stage.Handshake own in
    let b = c.args.bytes.now in
    judged_as _ _ t t b (Ok false) (Ok false) (sym c.self.view_is ∙ ap waiting c.in-Handshake.is) refl refl
    (hand_longer own b c.in-Whole.handshake c.in-Whole.ensures.0 c.in-Whole.ensures.1 c.if-bytes-gt68.true)

pub returns-then-bytes-size : goal.returns-then-bytes-size
returns-then-bytes-size g c =
    let m = c.in-Message in
    let w = c.in-Whole-read_front in
    let t = stage.Message m.context m.order m.start m.number in
    let b = c.args.bytes.now in
    judged_as _ _ t t b (Ok false) (Ok false) (sym c.self.view_is ∙ ap waiting m.is) refl refl
    (message_longer m.context m.order m.start m.number w.size b (message_of w.message) w.ensures c.if-bytes-size.true)

pub returns-else-bytes-gt68 : goal.returns-else-bytes-gt68
returns-else-bytes-gt68 g c =
    let own = c.in-Handshake.own in
    let b = c.args.bytes.now in
    judged_as _ _ (stage.Handshake own) (stage.Message c.negotiate.result Fresh 68 1) b (Ok true) (Ok true)
    (sym c.self.view_is ∙ ap waiting c.in-Handshake.is) refl refl
    (hand_taken own b c.in-Whole.handshake c.negotiate.result c.in-Whole.ensures.0 c.in-Whole.ensures.1 c.if-bytes-gt68.false c.negotiate.ensures)

pub returns-after-read_front : goal.returns-after-read_front
returns-after-read_front g c =
    let m = c.in-Message in
    let from : c.args.self.now ≡ waiting (stage.Message m.context m.order m.start m.number) = sym c.self.view_is ∙ ap waiting m.is in
    elim c.match-read_front.branch [
      | in-Refused-read_front w ↦ judged_as _ _ _ _ _ _ _ from (ap (λ (i : Inside). waiting i.stage) w.self-inside-is) w.result-is
          (message_refused m.context m.order m.start m.number c.args.bytes.now w.in-Refused-read_front.fault w.in-Refused-read_front.ensures)
      | in-Partial-read_front w ↦ judged_as _ _ _ _ _ _ _ from (ap (λ (i : Inside). waiting i.stage) w.self-inside-is) w.result-is
          (message_open m.context m.order m.start m.number c.args.bytes.now w.in-Partial-read_front.ensures)
      | in-Whole-read_front+else-bytes-size w ↦ judged_as _ _ _ _ _ _ _ from (ap (λ (i : Inside). waiting i.stage) w.self-inside-is) w.result-is
          (message_taken m.context m.order w.next_of_view.result m.start m.number w.in-Whole-read_front.size c.args.bytes.now
          (message_of w.in-Whole-read_front.message) w.in-Whole-read_front.ensures w.if-bytes-size.false w.next_of_view.ensures)
    ]
