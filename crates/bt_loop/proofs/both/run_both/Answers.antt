use Rattle.bt_loop.proofs.Passing.{running_halt, running_more}
use Rattle.bt_loop.proofs.both.run_both.Goals as goal

pub returns-in-Err : goal.returns-in-Err
returns-in-Err g c =
    running_halt _ _ _ c.args.rounds c.in-Err.halt c.loop-round.invariant c.loop-round-test.true c.in-Err.ensures

pub loop-round-preserved : goal.loop-round-preserved
loop-round-preserved g c =
    running_more _ c.loop-round.invariant c.in-Ok.ensures c.saturating_add.ensures c.saturating_add-in-Ok.ensures
