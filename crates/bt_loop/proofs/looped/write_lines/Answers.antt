use Rattle.std.proofs.Common.{refl, take, drop, sym}
use Rattle.std.proofs.lemmas.List.{take-append-drop}
use Rattle.bt_loop.proofs.looped.write_lines.Goals as goal

pub returns-then-write_front-lines-clause-written : goal.returns-then-write_front-lines-clause-written
returns-then-write_front-lines-clause-written g c =
    let n = c.write_front.result in
    ((take n c.args.lines.now, drop n c.args.lines.now, sym (take-append-drop n c.args.lines.now), c.write_front.ensures.sent), refl)
