use Rattle.std.proofs.Common.{[], refl}
use Rattle.bt_capture.specs.Runs.{origin, since_first}
use Rattle.bt_capture.proofs.Outcomes.{begins, nothing_told}
use Rattle.bt_capture.proofs.run.run_capture.Goals as goal

pub returns-in-Ok-new : goal.returns-in-Ok-new
returns-in-Ok-new g c =
    let o = origin c.args.job.now (g.R.Source.seen c.args.reader.now) (g.W.Target.seen c.args.writer.now) in
    c.tell_all.ensures o
    (begins o c.in-Ok.run' c.in-Ok-new.packets c.in-Ok.ensures.asked c.in-Ok.ensures.start
    (c.in-Ok.ensures.follows (since_first o.target [])) c.in-Ok.ensures.utp c.in-Ok.ensures.links c.in-Ok.ensures.skipped c.in-Ok.ensures.unread c.in-Ok-new.ensures.nothing) (refl, refl)

pub returns-in-Ok : goal.returns-in-Ok
returns-in-Ok g c = nothing_told (origin c.args.job.now (g.R.Source.seen c.args.reader.now) (g.W.Target.seen c.args.writer.now))

pub returns : goal.returns
returns g c = nothing_told (origin c.args.job.now (g.R.Source.seen c.args.reader.now) (g.W.Target.seen c.args.writer.now))
