use Rattle.bt_link.proofs.Running.{ended_so, script_by}
use Rattle.bt_link.proofs.run.run_text.Goals as goal

pub returns-in-Ok-Ok : goal.returns-in-Ok-Ok
returns-in-Ok-Ok g c =
    ended_so c.args.text.now c.in-Ok-Ok.script (g.W.Target.seen c.args.writer.now) (g.W.Target.seen c.finish.new.writer) c.finish.result
    (script_by c.args.text.now c.in-Ok-Ok.field-0 c.in-Ok-Ok.script c.in-Ok-Ok.ensures
    c.in-Ok-Ok.field-0-is) c.finish.ensures
