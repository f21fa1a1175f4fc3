use Rattle.std.proofs.Common.{◌≡◌, ◌≤◌, ◌+◌, ◌-◌, ◌^◌, [], min}
use Rattle.bt_io.specs.Seen.{devices}
use Rattle.bt_jobs.proofs.PackRuns.{IsRun}
use Rattle.bt_jobs.proofs.pack.run_pack.Given as goal

-- the bytes of the lines so far are written
abbrev pub invariant-loop-turn : goal.invariant-loop-turn
invariant-loop-turn g l = record {
  reads : min ((g.R.Source.seen l.initial.reader).reads + l._turn) (2 ^ 64 - 1) ≤ (g.R.Source.seen l.reader).reads;
  most : (g.R.Source.seen l.reader).reads ≤ (g.R.Source.seen l.initial.reader).reads + l._turn;
  failed : (g.R.Source.seen l.reader).failed ≡ (g.R.Source.seen l.initial.reader).failed;
  ends : (g.R.Source.seen l.reader).ends ≡ (g.R.Source.seen l.initial.reader).ends;
  calm : (g.W.Target.seen l.writer).failed ≡ (g.W.Target.seen l.initial.writer).failed;
  empty : l.out.items ≡ [];
  run : IsRun l.own (devices (g.R.Source.seen l.initial.reader) (g.W.Target.seen l.initial.writer))
      (devices (g.R.Source.seen l.reader) (g.W.Target.seen l.writer)) l.line.items l.judge;
}
