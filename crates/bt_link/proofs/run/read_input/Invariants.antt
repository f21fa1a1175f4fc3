use Rattle.std.proofs.Common.{◌≡◌, ◌≤◌, ◌-◌, ◌+◌, length}
use Rattle.std.specs.Io.KnownBytes.{Consumes}
use Rattle.bt_link.specs.Runs.{most_script}
use Rattle.bt_link.proofs.run.read_input.Given as goal

-- what was read so far
abbrev pub invariant-reads : goal.invariant-reads
invariant-reads g l = record {
  read : Consumes (g.R.Source.seen l.initial.reader).left (g.R.Source.seen l.reader).left l.text.items;
  short : length l.text.items ≤ most_script;
  failed : (g.R.Source.seen l.reader).failed ≡ (g.R.Source.seen l.initial.reader).failed;
  ends : (g.R.Source.seen l.reader).ends ≡ (g.R.Source.seen l.initial.reader).ends;
}

abbrev pub decreases-reads : goal.decreases-reads
decreases-reads g l = most_script + 1 - length l.text.items
