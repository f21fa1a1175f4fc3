use Rattle.std.proofs.Common.{◌-◌, length, drop, arith, rules}
use Rattle.std.proofs.lemmas.List.{length-drop, length-take}
use Rattle.bt_io.proofs.Moved.{Appends-more}
use Rattle.bt_io.proofs.outbox.write_front.Goals as goal

pub loop-done-preserved : goal.loop-done-preserved
loop-done-preserved g c =
    let bs = c.args.bytes.now in
    record {
      within = omega (
        arith,
        c.in-Ok.ensures.bound,
        length-take (length bs - c.loop-done.done) (drop c.loop-done.done bs),
        length-drop c.loop-done.done bs,
        c.loop-done.invariant.within,
      );
      sent = Appends-more _ _ _ bs c.loop-done.done c.in-Ok.count c.loop-done.invariant.sent c.in-Ok.ensures.bytes;
      failed = grind (arith, c.in-Ok.ensures.failed, c.loop-done.invariant.failed);
    }

pub returns-in-Ok-eq0-clause-sent : goal.returns-in-Ok-eq0-clause-sent
returns-in-Ok-eq0-clause-sent g c = search rules

pub returns-in-Ok-eq0-clause-whole : goal.returns-in-Ok-eq0-clause-whole
returns-in-Ok-eq0-clause-whole g c = search rules
