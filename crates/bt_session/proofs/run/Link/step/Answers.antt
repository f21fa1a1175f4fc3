use Rattle.std.proofs.Common.{◌≡◌, Result, Ok, Err, IfOk, sym, subst}
use Rattle.bt_io.specs.declared.outbox.Memory.{Memory}
use Rattle.bt_session.specs.declared.link.Outcome.{Outcome}
use Rattle.bt_session.specs.declared.link.Step.{Step}
use Rattle.bt_session.specs.declared.link.Step.TheVariants as step
use Rattle.bt_session.specs.declared.run.Link.{Link}
use Rattle.bt_session.proofs.Runs.{Steps, Goes}
use Rattle.bt_session.proofs.run.Link.step.Goals as goal

-- a step that goes, whatever the ends may handle
goes : (n m : Link) (s t : Step) (r : Result Outcome Memory) → s ≡ t → IfOk r (λ o. Goes n t o m) → IfOk r (λ o. Steps n s o m)
goes n m s t (Err e) is f = tt
goes n m s t (Ok o) is f = subst (λ (x : Step). Steps n x o m) (sym is) (λ l h may. f l h)

pub returns-in-Say-clause-done : goal.returns-in-Say-clause-done
returns-in-Say-clause-done c = goes c.args.self.now c.say.new.self c.args.step.now (step.Say c.in-Say.side c.in-Say.message) c.say.result c.in-Say.is
    c.say.ensures.done
