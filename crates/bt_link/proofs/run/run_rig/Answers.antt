use Rattle.bt_link.proofs.Running.{rig_by}
use Rattle.bt_link.proofs.run.run_rig.Goals as goal

pub returns-in-Ok-Some : goal.returns-in-Ok-Some
returns-in-Ok-Some g c =
    rig_by (g.R.Source.seen c.args.reader.now) (g.R.Source.seen c.read_input.new.reader) (g.W.Target.seen c.args.writer.now)
    (g.W.Target.seen c.run_text.new.writer) c.run_text.result c.in-Ok-Some.ensures c.in-Ok-Some.field-0-is c.as_slice.ensures.value c.run_text.ensures
