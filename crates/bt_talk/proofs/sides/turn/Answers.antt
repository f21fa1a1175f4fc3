use Rattle.std.proofs.Common.{◌≡◌, ◌∙◌, ℕ, Bool, true, false, List, [], append-nil, refl, sym, ap, subst}
use Rattle.bt_flow.specs.declared.flow.Given.{Given}
use Rattle.bt_talk.specs.Pasts.{Adds, given_of}
use Rattle.bt_talk.specs.Sent.{IsReady, is_wanted}
use Rattle.bt_talk.proofs.Stages.{beside}
use Rattle.bt_talk.proofs.Sent.{ready_none}
use Rattle.bt_talk.proofs.Talks.{acked_reset, sent_reset, sent_by, front_kept}
use Rattle.bt_talk.proofs.Shown.{shown_by, shown_nowhere}
use Rattle.bt_talk.specs.Stages.{AreItemsIn, is_opening}
use Rattle.bt_wire.specs.declared.item.Item.{Item}
use Rattle.bt_talk.proofs.sides.turn.Goals as goal

pub returns-then-segment-clause-taken : goal.returns-then-segment-clause-taken
returns-then-segment-clause-taken c = λ terms p q d e same. (
  record {
    p' = p;
    q' = q;
    p_is = d;
    q_is = e;
    sent = sent_reset c.args.segment.now (is_opening c.args.from.now.stage) p c.args.from.now.flow c.if-segment.true;
    acked = acked_reset c.args.segment.now q c.if-segment.true;
    stream = refl;
    noted = refl;
  },
  (
    false,
    λ f. absurd (let k : true ≡ false = sym c.if-segment.true ∙ f in cc),
    λ xs i. (
      [],
      subst (λ (l : List (ℕ × Item)). AreItemsIn c.args.from.now.stage p l) (sym (append-nil xs)) i,
      shown_nowhere c.args.side false c.args.watch.now,
    ),
  ),
  λ e. ready_none (is_opening c.args.from.now.stage) (is_wanted c.args.side c.args.room.now.wanted) p p c.args.room.now.out.items refl e,
)

pub returns-clause-taken : goal.returns-clause-taken
returns-clause-taken c = λ terms p q d e same.
    let from = c.args.from.now in
    let h = c.hear.ensures.heard terms q p c.if-segment.false e in
    let t = c.in_ok-take.ensures.taken terms p q d in
    let adds : Adds (given_of c.args.segment.now) (is_opening from.stage) p from.flow t.0 c.take.new.self.flow =
    subst (λ (g : Given). Adds g (is_opening from.stage) p from.flow t.0 c.take.new.self.flow) c.given_of-given.ensures t.2 in (
      record {
        p' = t.0;
        q' = h.0;
        p_is = beside terms t.0 q h.0 c.take.new.self (λ _. h.3) t.1;
        q_is = beside terms h.0 p t.0 c.hear.new.to
            (λ closed. front_kept (given_of c.args.segment.now) (is_opening from.stage) p from.flow t.0 c.take.new.self.flow adds
            (same ∙ sym (ap is_opening c.hear.ensures.stage) ∙ closed)) h.1;
        sent = sent_by c.args.segment.now (is_opening from.stage) p from.flow t.0 c.take.new.self.flow c.if-segment.false adds;
        acked = h.2;
        stream = c.hear.ensures.stream;
        noted = c.hear.ensures.noted;
      },
      (
        c.is_known.result,
        λ _. c.is_known.ensures terms h.0 p h.1,
        λ xs i.
            let m = t.3 xs i in
            (m.0, m.1, shown_by c.args.side c.is_known.result m.0 c.args.watch.now c.turn_to.new.self c.take.new.watch c.turn_to.ensures m.2),
      ),
      λ e. subst (λ (w : Bool). IsReady (is_opening from.stage) w p t.0 c.take.new.out.items) c.wants-is_wanted.ensures (t.4 e),
    )
