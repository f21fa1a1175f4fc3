use Rattle.std.proofs.Common.{refl}
use Rattle.bt_capture.proofs.Outcomes.{flushed, left_by}
use Rattle.bt_capture.proofs.run.write.Goals as goal

pub returns-in-Ok-clause-after : goal.returns-in-Ok-clause-after
returns-in-Ok-clause-after g c ph o left es r i =
    flushed o left (g.W.Target.seen c.args.writer.now) (g.W.Target.seen c.flush.new.writer) es c.args.run.now _ r refl
    c.flush.ensures.form refl refl refl refl refl refl refl
    c.in-Ok.ensures.empty (λ reports written t. c.in-Ok.ensures.written o.target reports written t) i

pub returns-in-Err-clause-after : goal.returns-in-Err-clause-after
returns-in-Err-clause-after g c ph o left es r i =
    left_by o left (g.W.Target.seen c.args.writer.now) (g.W.Target.seen c.flush.new.writer) es c.args.run.now r
    (λ reports written t. c.in-Err.ensures.stopped o.target reports written t) i
