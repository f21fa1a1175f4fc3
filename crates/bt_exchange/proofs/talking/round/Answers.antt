use Rattle.std.proofs.lemmas.Result.{err_from_is_err_and}
use Rattle.bt_exchange.proofs.Watches.{done_over, rounded_fault, rounded_late, rounded_on, rounded_over, rounded_told}
use Rattle.bt_exchange.proofs.talking.round.Goals as goal

pub returns-in-Some-clause-rounded : goal.returns-in-Some-clause-rounded
returns-in-Some-clause-rounded g c = rounded_told _ _ _ c.in_ok-step.step c.in-Some.event c.in_ok-step.ensures.advanced
    (rw c.in-Some.is at c.in_ok-event.ensures)

pub returns-then-is_over-clause-rounded : goal.returns-then-is_over-clause-rounded
returns-then-is_over-clause-rounded g c = rounded_late _ _ _ _ c.in_ok-step.step c.now-now.result c.in_ok-step.ensures.advanced
    (rw c.in_default.is at c.in_ok-event.ensures) c.now-now.ensures (c.is_over.ensures.over c.if-is_over.true)

pub returns-clause-rounded : goal.returns-clause-rounded
returns-clause-rounded g c = rounded_on _ _ _ _ c.in_ok-step.step c.now-now.result c.in_ok-step.ensures.advanced c.requires
    (rw c.in_default.is at c.in_ok-event.ensures) c.now-now.ensures (c.is_over.ensures.waits c.if-is_over.false)

pub returns-in_err-step-clause-rounded : goal.returns-in_err-step-clause-rounded
returns-in_err-step-clause-rounded g c =
    let p = err_from_is_err_and c.from_residual.result c.from_residual.ensures.1 in
    rw (p.1, p.2) (rounded_fault _ _ _ _ c.in_err-step.ensures.advanced)

pub returns-in_err-event-clause-rounded : goal.returns-in_err-event-clause-rounded
returns-in_err-event-clause-rounded g c =
    let p = err_from_is_err_and c.from_residual-in_err-event.result c.from_residual-in_err-event.ensures.1 in
    rw (p.1, p.2) (rounded_over _ _ _ c.in_ok-step.step _ c.in_ok-step.ensures.advanced c.in_err-event.ensures)

pub returns-in_err-event-clause-done : goal.returns-in_err-event-clause-done
returns-in_err-event-clause-done g c =
    let p = err_from_is_err_and c.from_residual-in_err-event.result c.from_residual-in_err-event.ensures.1 in
    rw (p.1, p.2) (done_over _ _ c.in_ok-step.step _ c.in_ok-step.ensures.advanced c.requires c.in_err-event.ensures)
