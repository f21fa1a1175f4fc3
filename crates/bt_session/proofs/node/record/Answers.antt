use Rattle.std.proofs.Common.{◌≡◌, ℕ, ◌+◌, ◌++◌, ◌∷◌, [], List, length, drop, ap, sym, subst, ◌∙◌, arith, length-append, length-drop}
use Rattle.std.proofs.lemmas.List.{drop-drop}
use Rattle.bt_wire.specs.declared.context.Order.{Order}
use Rattle.bt_wire.specs.declared.item.Item.{Item}
use Rattle.bt_wire.specs.declared.item.Item.TheVariants as items
use Rattle.bt_wire.specs.Messages.{Message}
use Rattle.bt_wire.specs.Fronts.{BeginsBy}
use Rattle.bt_wire.specs.Messages.{message_of, order_after, spell}
use Rattle.bt_session.specs.Nodes.{IsRecording}
use Rattle.bt_session.proofs.Recording.{record_more, record_refused, record_partial}
use Rattle.bt_session.proofs.node.record.Goals as goal

pub messages-preserved : goal.messages-preserved
messages-preserved c =
    let rest : List ℕ = c.rest.result.now in
    let b : BeginsBy c.args.context.now c.messages.order 0 rest (message_of c.in-Whole.view) c.in-Whole.length = c.in-Whole.ensures in
    let same : c.in_ok-message-in-Whole.message ≡ message_of c.in-Whole.view = c.in_ok-message-in-Whole.ensures.ok in
    let long : length (drop c.messages.at c.args.bytes.now) ≡ length rest = ap length (sym c.rest.ensures) in
    record {
      within = omega (
        arith,
        b.size,
        ap length b.parts,
        length-append (spell c.args.context.now (message_of c.in-Whole.view)) (drop c.in-Whole.length rest),
        long,
        length-drop c.messages.at c.args.bytes.now,
        c.messages.invariant.within,
      );
      recorded = λ xs s.
          let so_far = subst (λ (x : List ℕ). IsRecording c.args.context.now c.messages.order x c.args.sent.now.items c.messages.sent.items xs)
          (sym c.rest.ensures) (c.messages.invariant.recorded xs s) in
          let more = record_more c.args.context.now c.messages.order rest c.args.sent.now.items c.messages.sent.items xs (message_of c.in-Whole.view)
          c.in-Whole.length c.requires b so_far in
          let order : c.next-order.result ≡ order_after c.messages.order (message_of c.in-Whole.view) = c.next-order.ensures
          ∙ ap (order_after c.messages.order) same in
          let place : drop (c.messages.at + c.in-Whole.length) c.args.bytes.now ≡ drop c.in-Whole.length rest =
          sym (drop-drop c.in-Whole.length c.messages.at c.args.bytes.now) ∙ ap (drop c.in-Whole.length) (sym c.rest.ensures) in
          let items_are : c.push.new.self.items ≡ c.messages.sent.items ++ items.Message (message_of c.in-Whole.view) ∷ [] =
          c.in_ok-push-in-Whole.ensures.items ∙ ap (λ (x : Message). c.messages.sent.items ++ items.Message x ∷ []) same in
          subst (λ (o : Order). IsRecording c.args.context.now o (drop (c.messages.at + c.in-Whole.length) c.args.bytes.now) c.args.sent.now.items
          c.push.new.self.items xs) (sym order)
          (subst (λ (x : List ℕ). IsRecording c.args.context.now (order_after c.messages.order (message_of c.in-Whole.view)) x c.args.sent.now.items
          c.push.new.self.items xs) (sym place)
          (subst (λ (x : List Item). IsRecording c.args.context.now (order_after c.messages.order (message_of c.in-Whole.view))
          (drop c.in-Whole.length rest) c.args.sent.now.items x xs) (sym items_are) more));
    }

pub returns-in-Refused : goal.returns-in-Refused
returns-in-Refused c = λ xs s.
    let so_far = subst (λ (x : List ℕ). IsRecording c.args.context.now c.messages.order x c.args.sent.now.items c.messages.sent.items xs)
    (sym c.rest.ensures) (c.messages.invariant.recorded xs s) in
    record_refused c.args.context.now c.messages.order c.rest.result.now c.args.sent.now.items c.messages.sent.items xs c.in-Refused.field-0 c.requires
    c.in-Refused.ensures so_far

pub returns-in-Partial : goal.returns-in-Partial
returns-in-Partial c = λ xs s.
    let so_far = subst (λ (x : List ℕ). IsRecording c.args.context.now c.messages.order x c.args.sent.now.items c.messages.sent.items xs)
    (sym c.rest.ensures) (c.messages.invariant.recorded xs s) in
    record_partial c.args.context.now c.messages.order c.rest.result.now c.args.sent.now.items c.messages.sent.items xs c.requires c.in-Partial.ensures so_far
