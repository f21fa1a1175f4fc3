use Rattle.std.proofs.Common.{take, drop, sym}
use Rattle.std.proofs.lemmas.List.{take-append-drop}
use Rattle.bt_jobs.proofs.output.write_out.Goals as goal

pub returns-then-write_front-bytes-clause-written : goal.returns-then-write_front-bytes-clause-written
returns-then-write_front-bytes-clause-written g c =
    let n = c.write_front.result in
    (take n c.args.bytes.now, drop n c.args.bytes.now, sym (take-append-drop n c.args.bytes.now), c.write_front.ensures.sent)
