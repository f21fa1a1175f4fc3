use Rattle.bt_link.proofs.Running.{finished_so}
use Rattle.bt_link.proofs.run.finish.Goals as goal

pub returns-in-Ok : goal.returns-in-Ok
returns-in-Ok g c = finished_so c.args.script c.in-Ok.report (g.W.Target.seen c.args.writer.now) (g.W.Target.seen c.print.new.writer) c.print.result
    c.in-Ok.ensures.run c.print.ensures
