use Rattle.std.proofs.Common.{◌-◌, drop, arith}
use Rattle.std.proofs.lemmas.List.{length-drop, take_all}
use Rattle.bt_jobs.proofs.Printing.{written_after, prefix_of_both}
use Rattle.bt_jobs.proofs.check.say_after.Goals as goal

pub returns-in-Ok-clause-written : goal.returns-in-Ok-clause-written
returns-in-Ok-clause-written g c =
    let place = c.verdict_line-place.result in
    let line = c.verdict_line-place.new.line in
    let all = take_all (160 - place) (drop place line) (omega (arith, length-drop place line)) in
    written_after _ _ _ c.args.prefix.now _ c.args.ended c.write_out-in-Ok.result c.in-Ok.ensures.written.1
    (rw (all, c.verdict_line-place.ensures.text) at c.write_out-in-Ok.ensures.written)

pub returns-in-Err-clause-written : goal.returns-in-Err-clause-written
returns-in-Err-clause-written g c = prefix_of_both _ _ c.args.prefix.now _ c.in-Err.ensures.written
