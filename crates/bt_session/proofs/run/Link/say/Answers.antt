use Rattle.std.proofs.Common.{sym, subst, IfOk}
use Rattle.bt_session.specs.declared.link.Side.{Side}
use Rattle.bt_session.specs.declared.link.Step.TheVariants as step
use Rattle.bt_session.proofs.Runs.{Goes, say_left, say_right}
use Rattle.bt_session.proofs.run.Link.say.Goals as goal

pub returns-in-Left-clause-done : goal.returns-in-Left-clause-done
returns-in-Left-clause-done c =
    subst (λ (s : Side). IfOk c.say.result (λ o. Goes c.args.self.now (step.Say s c.args.message.now) o (record c.args.self.now { left = c.say.new.self })))
    (sym c.in-Left.is)
    (say_left c.args.self.now c.say.new.self c.args.message.now c.say.result c.is_written.ensures c.say.ensures)

pub returns-in-Right-clause-done : goal.returns-in-Right-clause-done
returns-in-Right-clause-done c =
    subst (λ (s : Side). IfOk c.say-in-Right.result (λ o. Goes c.args.self.now (step.Say s c.args.message.now) o
    (record c.args.self.now { right = c.say-in-Right.new.self }))) (sym c.in-Right.is)
    (say_right c.args.self.now c.say-in-Right.new.self c.args.message.now c.say-in-Right.result c.is_written.ensures c.say-in-Right.ensures)
