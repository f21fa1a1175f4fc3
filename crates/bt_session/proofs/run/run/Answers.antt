use Rattle.bt_session.proofs.Runs.{written_at, done_at}
use Rattle.bt_session.proofs.run.run.Goals as goal

pub steps-preserved : goal.steps-preserved
steps-preserved c = record {
  written = written_at c.steps.step-index c.args.steps.now c.step-item.result c.steps-test.true c.step-item.is c.steps.invariant.written c.step.ensures.written;
  done = done_at c.steps.outcomes.items c.in-Ok.outcome
      (record { within = c.steps-test.true; few = c.requires; here = c.step-item.is; written = c.steps.invariant.written })
      c.in_ok-push-in-Ok.ensures.items c.steps.invariant.done c.in-Ok.ensures.done;
}
