use Rattle.std.proofs.Common.{sym, subst, IfOk}
use Rattle.bt_session.specs.declared.link.Side.{Side}
use Rattle.bt_session.specs.declared.link.Step.TheVariants as step
use Rattle.bt_session.proofs.Runs.{Steps, turn_left, turn_right}
use Rattle.bt_session.proofs.run.Link.turn.Goals as goal

pub returns-in-Left : goal.returns-in-Left
returns-in-Left c =
    subst (λ (s : Side). IfOk c.turn.result (λ o. Steps c.args.self.now (step.Turn s) o (record c.args.self.now { left = c.turn.new.self })))
    (sym c.in-Left.is) (turn_left c.args.self.now c.turn.new.self c.turn.result c.turn.ensures)

pub returns-in-Right : goal.returns-in-Right
returns-in-Right c =
    subst (λ (s : Side). IfOk c.turn-in-Right.result (λ o. Steps c.args.self.now (step.Turn s) o
    (record c.args.self.now { right = c.turn-in-Right.new.self }))) (sym c.in-Right.is) (turn_right c.args.self.now c.turn-in-Right.new.self
    c.turn-in-Right.result c.turn-in-Right.ensures)
