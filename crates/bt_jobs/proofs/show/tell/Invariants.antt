use Rattle.std.proofs.Common.{◌≡◌, ◌≤◌, ◌+◌, ◌-◌, ◌^◌, min}
use Rattle.bt_jobs.specs.Printed.{form_of}
use Rattle.bt_jobs.proofs.Printing.{IsToldTo}
use Rattle.bt_jobs.proofs.show.tell.Given as goal

-- the text of what was read so far is written
abbrev pub invariant-loop-turn : goal.invariant-loop-turn
invariant-loop-turn g l = record {
  reads : min ((g.R.Source.seen l.initial.reader).reads + l._turn) (2 ^ 64 - 1) ≤ (g.R.Source.seen l.reader).reads;
  most : (g.R.Source.seen l.reader).reads ≤ (g.R.Source.seen l.initial.reader).reads + l._turn;
  failed : (g.R.Source.seen l.reader).failed ≡ (g.R.Source.seen l.initial.reader).failed;
  ends : (g.R.Source.seen l.reader).ends ≡ (g.R.Source.seen l.initial.reader).ends;
  calm : (g.W.Target.seen l.writer).failed ≡ (g.W.Target.seen l.initial.writer).failed;
  told : IsToldTo (form_of l.initial.printer) l.own (g.R.Source.seen l.initial.reader).left (g.R.Source.seen l.reader).left
      (g.W.Target.seen l.initial.writer).held
      (g.W.Target.seen l.writer).held l.feed l.printer;
}
