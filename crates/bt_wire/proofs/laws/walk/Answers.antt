use Rattle.std.proofs.Common.{◌≡◌, ◌+◌, ℕ, length, drop, ap, subst, arith}
use Rattle.std.proofs.lemmas.List.{length-drop}
use Rattle.bt_wire.specs.Streams.{IsOutcome}
use Rattle.bt_wire.proofs.WalkLaws.{refused_here, partial_here, message_size, message_more}
use Rattle.bt_wire.proofs.laws.walk.Goals as goal

pub returns-in-Refused : goal.returns-in-Refused
returns-in-Refused c = c.messages.invariant.told _ (refused_here c.args.context.now c.messages.order (68 + c.messages.at) c.messages.number
    (drop c.messages.at c.args.messages.now) _ _ (omega arith) c.suffix.ensures c.in-Refused.ensures)

pub returns-in-Partial : goal.returns-in-Partial
returns-in-Partial c = c.messages.invariant.told _ (partial_here c.args.context.now c.messages.order (68 + c.messages.at) c.messages.number
    (drop c.messages.at c.args.messages.now) _ (omega arith) c.suffix.ensures c.in-Partial.ensures)

pub messages-preserved : goal.messages-preserved
messages-preserved c =
    let at = c.messages.at in
    let all = c.args.messages.now in
    let size = message_size _ _ _ _ _ _ c.in-Whole.ensures in
    record {
      within = omega (arith, size.1, ap length c.suffix.ensures, length-drop at all, c.messages.invariant.within);
      moved = omega (arith, size.0, c.messages.invariant.moved);
      told = λ v h. c.messages.invariant.told _ (message_more {c = c.args.context.now} at all (omega arith) c.suffix.ensures c.in-Whole.ensures
          c.next_of_view-order.ensures
          (let P : ℕ → Type 0 = λ s. IsOutcome c.args.context.now c.next_of_view-order.result s (c.messages.number + 1) (drop (at + c.in-Whole.length) all)
          v in let e : 68 + (at + c.in-Whole.length) ≡ 68 + at + c.in-Whole.length = omega arith in subst P e h));
    }
