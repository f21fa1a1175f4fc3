use Rattle.std.proofs.Common.{◌+◌, ◌≤◌}
use Rattle.bt_capture.specs.Runs.{Origin, IsTelling}
use Rattle.bt_capture.specs.Sees.{HasGone}
use Rattle.bt_capture.proofs.run.read_all.Given as goal

abbrev pub invariant-loop-turn : goal.invariant-loop-turn
invariant-loop-turn g l = record {
  told : (o : Origin)
      → IsTelling o (g.R.Source.seen l.initial.reader).left (g.W.Target.seen l.initial.writer) l.initial.run.connections.table l.initial.run l.initial.packets
      → IsTelling o (g.R.Source.seen l.reader).left (g.W.Target.seen l.writer) l.run.connections.table l.run l.packets;
  turns : (o : Origin)
      → IsTelling o (g.R.Source.seen l.initial.reader).left (g.W.Target.seen l.initial.writer) l.initial.run.connections.table l.initial.run l.initial.packets
      → l._turn ≤ l.packets.bytes + l.packets.packets;
  gone : HasGone (g.R.Source.seen l.initial.reader) (g.R.Source.seen l.reader);
}
