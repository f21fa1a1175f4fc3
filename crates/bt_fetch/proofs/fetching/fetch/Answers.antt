use Rattle.std.proofs.Common.{ap, ◌∙◌, arith}
use Rattle.std.proofs.lemmas.Result.{err_from_is_err_and}
use Rattle.bt_fetch.specs.Listings.{Listing}
use Rattle.bt_fetch.specs.Queues.{dials_of}
use Rattle.bt_fetch.specs.Swarms.{stage_when}
use Rattle.bt_fetch.proofs.Courses.{course_first, course_logged, logged_none}
use Rattle.bt_fetch.proofs.fetching.fetch.Goals as goal

pub returns-in_err-places-clause-log : goal.returns-in_err-places-clause-log
returns-in_err-places-clause-log g c =
    let p = err_from_is_err_and c.from_residual.result c.from_residual.ensures.1 in
    rw (p.1, p.2) (logged_none (g.D.Device.list c.args.device.now).known (g.D.Device.log c.args.device.now))

pub returns-in_err-dials-clause-log : goal.returns-in_err-dials-clause-log
returns-in_err-dials-clause-log g c =
    let p = err_from_is_err_and c.from_residual-in_err-dials.result c.from_residual-in_err-dials.ensures.1 in
    rw (p.1, p.2) (logged_none (g.D.Device.list c.args.device.now).known (g.D.Device.log c.args.device.now))

pub returns-clause-log : goal.returns-clause-log
returns-clause-log g c =
    let start = g.D.Device.log c.args.device.now in
    let q = c.fetch_at-fetched.new.queue in
    let f = c.fetch_at-fetched.ensures in
    let known = ap (λ (l : Listing). l.known) (c.leave_dials.ensures.list ∙ c.leave_all.ensures.list) in
    let missing = c.write_out-written.ensures.missing in
    course_logged (g.D.Device.list c.leave_dials.new.device).known q.next q.again.items start (g.D.Device.log c.leave_dials.new.device)
    (stage_when c.fetch_at-fetched.result) c.write_out-written.result (omega (arith, q.again.ok.0, f.fits, known)) (omega (arith, q.within, q.again.ok.0))
    (λ e. omega (arith, f.all (missing e), f.known (missing e), q.again.ok.0, known)) c.write_out-written.ensures.stage
    (c.leave_dials.ensures.log (stage_when c.fetch_at-fetched.result) start (dials_of q.next q.again.items)
    (c.leave_all.ensures.log (stage_when c.fetch_at-fetched.result) start (dials_of q.next q.again.items)
    (c.fetch_at-fetched.ensures.log start (course_first start (dials_of c.new-queue.result.next c.new-queue.result.again.items) c.new-queue.ensures.none))))
