use Rattle.std.proofs.Common.{◌∙◌, ℕ, Bool, Option, refl, ap}
use Rattle.bt_flow.specs.Flows.{high_in}
use Rattle.bt_talk.specs.Closing.{over_after}
use Rattle.bt_talk.proofs.Closes.{closed_same}
use Rattle.bt_talk.proofs.talk.Talk.note.Goals as goal

pub returns-clause-closes : goal.returns-clause-closes
returns-clause-closes c = λ a b t.
    let self = c.args.self.now in
    let a_closed = c.is_closed.ensures a.heard a.segs a.out t.a_is.flow in
    let b_closed = c.is_closed-2.ensures b.heard b.segs b.out t.b_is.flow in
    record {
      a_closed = c.is_closed.result;
      b_closed = c.is_closed-2.result;
      a_is = a_closed;
      b_is = b_closed;
      closed = c.end.ensures.closed ∙ c.close.ensures.closed ∙ closed_same self.closing.closed c.args.flags c.args.flags.rst c.args.when c.args.side c.args.side
          c.high.result (high_in a.heard self.sides.a.flow.stream) c.high-2.result (high_in b.heard self.sides.b.flow.stream) refl
          (c.high.ensures a.heard a.segs a.out t.a_is.flow) (c.high-2.ensures b.heard b.segs b.out t.b_is.flow);
      over = c.end.ensures.over ∙ ap (λ (o : Option ℕ). over_after o c.is_end-over.result c.args.when.nanos) c.close.ensures.over
          ∙ ap (λ (o : Bool). over_after self.closing.over o c.args.when.nanos) c.is_end-over.ensures;
    }
