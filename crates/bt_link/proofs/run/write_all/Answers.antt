use Rattle.std.proofs.Common.{take, drop, sym}
use Rattle.std.proofs.lemmas.List.{take-append-drop}
use Rattle.bt_link.proofs.run.write_all.Goals as goal

pub returns-then-write_front-bytes : goal.returns-then-write_front-bytes
returns-then-write_front-bytes g c =
    let n = c.write_front.result in (
      (take n c.args.bytes.now, drop n c.args.bytes.now, sym (take-append-drop n c.args.bytes.now), c.write_front.ensures.sent),
      c.write_front.ensures.stopped c.if-write_front-bytes.true,
    )
