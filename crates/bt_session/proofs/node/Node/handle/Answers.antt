use Rattle.std.proofs.Common.{◌≡◌, ℕ, ◌++◌, ◌∷◌, [], List, length, map, ap, sym, subst, ◌∙◌, refl, Result, Ok, Err, IfOk, arith, length-append}
use Rattle.bt_io.specs.declared.outbox.Memory.{Memory}
use Rattle.bt_wire.specs.declared.item.Item.{Item}
use Rattle.bt_wire.specs.declared.item.Item.TheVariants as items
use Rattle.bt_end.specs.Ends.{Reaction, belief, react}
use Rattle.bt_end.specs.Halves.{HalfState, IsTurned}
use Rattle.bt_session.specs.ByteLinks as B
use Rattle.bt_session.specs.Nodes.{IsNodeOf, MayHandle, Spells, IsStop}
use Rattle.bt_end.specs.declared.end.Turn.TheVariants as turn
use Rattle.bt_end.specs.declared.end.TurnError.{TurnError}
use Rattle.bt_end.specs.declared.end.TurnError.TheVariants as turn_error
use Rattle.bt_session.specs.declared.link.Outcome.{Outcome}
use Rattle.bt_session.specs.declared.link.Outcome.TheVariants as outcome
use Rattle.bt_session.specs.declared.node.Node.{Node}
use Rattle.bt_session.proofs.Recording.{spells_queued}
use Rattle.bt_session.proofs.node.Node.handle.Goals as goal

pub returns-in-Ok : goal.returns-in-Ok
returns-in-Ok c = λ x h well.
    let old : IsTurned c.args.self.now.end (Ok turn.Handled) c.turn.new.self = rw c.in-Ok-Handled.field-0-is at c.in-Ok-Handled.ensures in
    let t : IsTurned x.half (Ok turn.Handled) c.turn.new.self = subst (λ (a : HalfState). IsTurned a (Ok turn.Handled) c.turn.new.self) h.end old in
    let i : Item = t.0 in
    let r : Reaction = react x.half.end i in
    let before : length c.outgoing-before.result.now ≡ length x.half.outbox = ap (length {A = ℕ}) (c.outgoing-before.ensures.value
    ∙ ap (λ (a : HalfState). a.outbox) h.end) in
    let spells : Spells c.belief-context.result c.sending-order.result c.rest-queued.result.now r.queued =
    spells_queued x.half r
    (c.outgoing.ensures.value ∙ ap (λ (a : HalfState). a.outbox) t.2) (c.belief-context.ensures ∙ ap (λ (a : HalfState). belief a.end) t.2)
    (c.sending-order.ensures ∙ ap (λ (a : HalfState). a.end.sends) h.end)
    before c.rest-queued.ensures (well.queues i t.1) in (
      B.handles x i,
      (i, t.1, refl),
      record {
        end = t.2;
        untaken = h.untaken;
        sent = c.in-Ok.ensures r.queued spells ∙ ap (λ (js : List Item). js ++ map items.Message r.queued) h.sent;
        handled = omega (arith, c.saturating_add-self.ensures, h.handled, well.count, length-append x.handled (i ∷ []));
      },
    )

-- the node after a turn that handled nothing
Stops : B.Node → Outcome → Node → Type 0
Stops x o n = (y : B.Node) × B.TurnGives x o y × IsNodeOf n y

stops : (n : Node) (x : B.Node) (a : HalfState) (e : TurnError) (o : Outcome) → IsNodeOf n x → IsTurned n.end (Err e) a → IsStop e o
    → Stops x o (record n { end = a })
unfolding Stops
stops n x a (turn_error.Refused r) o h old is =
    let t : IsTurned x.half (Err (turn_error.Refused r)) a = subst (λ (b : HalfState). IsTurned b (Err (turn_error.Refused r)) a) h.end old in
    let gives : B.TurnGives x (outcome.Refused r) (B.with_half x a) = (t, refl) in (
      B.with_half x a,
      subst (λ (p : Outcome). B.TurnGives x p (B.with_half x a)) (sym is) gives,
      record {
        end = refl;
        untaken = h.untaken;
        sent = h.sent;
        handled = h.handled;
      },
    )
stops n x a turn_error.Busy o h old is =
    let t : IsTurned x.half (Err turn_error.Busy) a = subst (λ (b : HalfState). IsTurned b (Err turn_error.Busy) a) h.end old in
    let gives : B.TurnGives x outcome.Busy (B.with_half x a) = (t, refl) in (
      B.with_half x a,
      subst (λ (p : Outcome). B.TurnGives x p (B.with_half x a)) (sym is) gives,
      record {
        end = refl;
        untaken = h.untaken;
        sent = h.sent;
        handled = h.handled;
      },
    )
stops n x a turn_error.Memory o h old is = absurd is

stopped_by : (n : Node) (a : HalfState) (e : TurnError) (r : Result Outcome Memory) → IsTurned n.end (Err e) a → IfOk r (λ o. IsStop e o)
    → IfOk r (λ o. (x : B.Node) → IsNodeOf n x → MayHandle x → Stops x o (record n { end = a }))
stopped_by n a e (Ok o) old is = λ x h well. stops n x a e o h old is
stopped_by n a e (Err m) old is = tt

pub returns-in-Err : goal.returns-in-Err
unfolding Stops
returns-in-Err c = stopped_by c.args.self.now c.turn.new.self c.in-Err.error c.stopped.result c.in-Err.ensures c.stopped.ensures
