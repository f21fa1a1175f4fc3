use Rattle.std.proofs.Common.{sym, subst}
use Rattle.bt_session.specs.declared.link.Side.{Side}
use Rattle.bt_session.specs.declared.link.Outcome.TheVariants as outcome
use Rattle.bt_session.specs.declared.link.Step.TheVariants as step
use Rattle.bt_session.proofs.Runs.{Goes, deliver_left, deliver_right}
use Rattle.bt_session.proofs.run.Link.deliver.Goals as goal

pub returns-in_ok-count-in-Left : goal.returns-in_ok-count-in-Left
returns-in_ok-count-in-Left c =
    subst (λ (s : Side). Goes c.args.self.now (step.Deliver s c.args.n) (outcome.Delivered c.in_ok-count-in-Left.count)
    (record c.args.self.now { left = c.deliver.new.self; right = c.deliver.new.other })) (sym c.in-Left.is)
    (deliver_left c.args.self.now c.deliver.new.self c.deliver.new.other c.args.n c.in_ok-count-in-Left.count c.in_ok-count-in-Left.ensures)

pub returns-in_ok-count-in-Right : goal.returns-in_ok-count-in-Right
returns-in_ok-count-in-Right c =
    subst (λ (s : Side). Goes c.args.self.now (step.Deliver s c.args.n) (outcome.Delivered c.in_ok-count-in-Right.count)
    (record c.args.self.now { left = c.deliver-in-Right.new.other; right = c.deliver-in-Right.new.self })) (sym c.in-Right.is)
    (deliver_right c.args.self.now c.deliver-in-Right.new.self c.deliver-in-Right.new.other c.args.n c.in_ok-count-in-Right.count
    c.in_ok-count-in-Right.ensures)
