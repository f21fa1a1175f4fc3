use Rattle.std.proofs.Common.{◌∙◌, ◌++◌, ◌∷◌, [], ap, arith, refl, Some, cond}
use Rattle.std.specs.Ordering.{is_eq}
use Rattle.std.specs.BTreeMap.{get}
use Rattle.bt_packet.specs.Utp.{utp_packet}
use Rattle.bt_utp.specs.States.{order}
use Rattle.bt_utp.proofs.Taking.{left_out, begins}
use Rattle.bt_utp.proofs.flows.UtpFlows.begin.Goals as goal

pub returns-then-self-ge-LIMIT-clause-ok : goal.returns-then-self-ge-LIMIT-clause-ok
returns-then-self-ge-LIMIT-clause-ok c ds are none = left_out ds (utp_packet c.args.first.now) c.args.self.now are none (omega (arith, c.if-self-ge-LIMIT.true))

pub returns-clause-ok : goal.returns-clause-ok
returns-clause-ok c ds are none =
    let d = utp_packet c.args.first.now in
    let count = c.len-place.ensures ∙ c.in_ok-reserve.ensures.len ∙ c.args.self.now.flows.ok.0 in
    begins ds d c.args.self.now _ c.in_ok-flow.flow are none (omega (arith, c.if-self-ge-LIMIT.false)) c.in_ok-flow.ensures.ends.0 c.in_ok-flow.ensures.ends.1
    c.in_ok-flow.ensures.ids c.in_ok-flow.ensures.is_least c.in_ok-flow.ensures.reasons.0 c.in_ok-flow.ensures.reasons.1
    (c.in_ok-push.ensures.items ∙ ap (λ l. l ++ c.in_ok-flow.flow ∷ []) c.in_ok-reserve.ensures.items)
    (λ a b. c.in_ok-insert.ensures.updates.0 (a, b)
    ∙ ap (λ n. cond (is_eq (order (d.source, d.target) (a, b))) (Some n) (get order c.args.self.now.places (a, b))) count) refl
