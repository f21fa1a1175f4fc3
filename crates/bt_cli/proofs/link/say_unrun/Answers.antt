use Rattle.std.proofs.Common.{ℕ, List, subst}
use Rattle.bt_run.specs.Runs.{IsSaid}
use Rattle.bt_cli.proofs.link.say_unrun.Goals as goal

pub returns : goal.returns
returns g c =
    subst (λ (text : List ℕ). IsSaid text (g.E.Target.seen c.args.errors.now) (g.E.Target.seen c.say.new.errors))
    c.unrun_line.ensures c.say.ensures
