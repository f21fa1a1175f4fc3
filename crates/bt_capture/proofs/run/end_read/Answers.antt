use Rattle.std.proofs.Common.{inr}
use Rattle.std.proofs.lemmas.Result.{err_from_is_err_and}
use Rattle.bt_capture.specs.FlowTexts.{datagrams}
use Rattle.bt_capture.proofs.Outcomes.{not_added}
use Rattle.bt_capture.proofs.run.end_read.Goals as goal

pub returns : goal.returns
returns g c o seen i ended =
    let told = c.in_ok-finish.ensures.after o seen.left c.args.packets.now i in
    c.end_of.ensures o seen (g.W.Target.seen c.finish.new.writer) (g.W.Target.seen c.write_utp.new.writer) told c.in_ok-finish.ensures.empty ended
    (c.in_ok-write_utp.ensures.added (datagrams told.packets) told.utp)

pub returns-in_err-write_utp : goal.returns-in_err-write_utp
returns-in_err-write_utp g c o seen i ended =
    let told = c.in_ok-finish.ensures.after o seen.left c.args.packets.now i in
    let before = g.W.Target.seen c.finish.new.writer in
    let now = g.W.Target.seen c.write_utp.new.writer in
    let left = not_added (Unit {0}) _ o seen.left before now c.finish.new.run c.args.packets.now c.in_ok-finish.ensures.empty told
    (c.in_err-write_utp.ensures.added (datagrams told.packets) told.utp) in
    let stop = err_from_is_err_and c.from_residual-in_err-write_utp.result c.from_residual-in_err-write_utp.ensures.1 in
    rw (stop.1, stop.2) (inr (c.args.ending, c.args.packets.now, left, ended))

pub returns-in_err-finish : goal.returns-in_err-finish
returns-in_err-finish g c o seen i ended =
    let stop = err_from_is_err_and c.from_residual.result c.from_residual.ensures.1 in
    rw (stop.1, stop.2) (inr (c.args.ending, c.args.packets.now, c.in_err-finish.ensures.after o seen.left c.args.packets.now i, ended))
