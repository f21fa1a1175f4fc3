use Rattle.std.proofs.Common.{◌≡◌, ◌≤◌, ◌+◌, ◌-◌, ◌^◌, min}
use Rattle.bt_jobs.proofs.Hearing.{IsListeningTo}
use Rattle.bt_jobs.proofs.other.read_other.Given as goal

-- what was read so far was heard
abbrev pub invariant-loop-turn : goal.invariant-loop-turn
invariant-loop-turn g l = record {
  reads : min ((g.R.Source.seen l.initial.reader).reads + l._turn) (2 ^ 64 - 1) ≤ (g.R.Source.seen l.reader).reads;
  most : (g.R.Source.seen l.reader).reads ≤ (g.R.Source.seen l.initial.reader).reads + l._turn;
  failed : (g.R.Source.seen l.reader).failed ≡ (g.R.Source.seen l.initial.reader).failed;
  ends : (g.R.Source.seen l.reader).ends ≡ (g.R.Source.seen l.initial.reader).ends;
  heard : IsListeningTo (g.R.Source.seen l.initial.reader).left (g.R.Source.seen l.reader).left l.feed l.listener;
}
