use Rattle.std.proofs.Common.{◌≡◌, length, take, ◌-◌, ◌≤◌}
use Rattle.std.specs.Io.KnownBytes.{Appends}
use Rattle.bt_io.proofs.outbox.write_front.Given as goal

abbrev pub invariant-loop-done : goal.invariant-loop-done
invariant-loop-done g l = record {
  within : l.done ≤ length l.bytes;
  sent : Appends (g.W.Target.seen l.initial.writer).held (g.W.Target.seen l.writer).held (take l.done l.bytes);
  failed : (g.W.Target.seen l.writer).failed ≡ (g.W.Target.seen l.initial.writer).failed;
}

abbrev pub decreases-loop-done : goal.decreases-loop-done
decreases-loop-done g l = length l.bytes - l.done
