use Rattle.std.proofs.Common.{sym, arith}
use Rattle.std.proofs.lemmas.Result.{err_from_is_err_and}
use Rattle.bt_exchange.proofs.Watches.{exchanged_first, exchanged_last, exchanged_stop, exchanged_told, going_first, going_on}
use Rattle.bt_exchange.proofs.talking.exchange.Goals as goal

pub returns-in-Some-clause-exchanged : goal.returns-in-Some-clause-exchanged
returns-in-Some-clause-exchanged g c = exchanged_first _ _ _ c.in-Some.stop c.in-Some.ensures

pub loop-made-init : goal.loop-made-init
loop-made-init g c = record { going = going_first _ _ _ c.in_default.ensures }

pub round-requires : goal.round-requires
round-requires g c = c.loop-made.invariant.going.goes

pub returns-in_err-event-clause-exchanged : goal.returns-in_err-event-clause-exchanged
returns-in_err-event-clause-exchanged g c =
    let p = err_from_is_err_and c.from_residual.result c.from_residual.ensures.1 in
    rw (p.1, p.2) (
    exchanged_stop _ _ c.loop-made.steps _ c.loop-made.made _ _ _ _ c.loop-made.invariant.going c.in_err-event.ensures.rounded
    (omega (arith, c.loop-made-test.true))
    )

pub returns-in-Some-2-clause-exchanged : goal.returns-in-Some-2-clause-exchanged
returns-in-Some-2-clause-exchanged g c = exchanged_told _ _ c.loop-made.steps _ c.loop-made.made _ _ _ c.in-Some-2.event c.loop-made.invariant.going
    (rw c.in-Some-2.is at c.in_ok-event.ensures.rounded) (omega (arith, c.loop-made-test.true))

pub loop-made-preserved : goal.loop-made-preserved
loop-made-preserved g c = record {
  going = going_on _ _ c.loop-made.steps _ c.loop-made.made _ _ _ c.loop-made.invariant.going (rw c.in_default-2.is at c.in_ok-event.ensures.rounded)
      (omega (arith, c.loop-made-test.true));
}

pub returns-clause-exchanged : goal.returns-clause-exchanged
returns-clause-exchanged g c = exchanged_last _ _ _ c.loop-made.made _ _ (omega (arith, c.loop-made-test.false, c.loop-made.auto.made-end))
    c.loop-made.invariant.going

pub returns-clause-done : goal.returns-clause-done
returns-clause-done g c = sym c.loop-made.invariant.going.goes.undone
