use Rattle.std.proofs.Common.{Option, List, ℕ}
use Rattle.std.specs.Vec.Iter.{into_iter_items}
use Rattle.bt_capture.specs.Readings.{Reading}
use Rattle.bt_capture.specs.Following.{AtEnd}
use Rattle.bt_capture.specs.Runs.{Origin, IsTellingIn}
use Rattle.bt_capture.specs.Tables.{IsApart}
use Rattle.bt_capture.proofs.run.finish.Given as goal

abbrev pub invariant-loop-connection : goal.invariant-loop-connection
invariant-loop-connection g l = record {
  apart : IsApart (into_iter_items l.connection-iterator);
  told : (o : Origin) (left : Option (List ℕ)) (r : Reading)
      → IsTellingIn AtEnd o left (g.W.Target.seen l.initial.writer) (into_iter_items l.initial.connection-iterator) l.initial.run r
      → IsTellingIn AtEnd o left (g.W.Target.seen l.writer) (into_iter_items l.connection-iterator) l.run r;
}
