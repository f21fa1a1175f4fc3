use Rattle.std.proofs.Common.{◌≡◌, ◌≤◌, ◌-◌, ◌+◌, length}
use Rattle.std.specs.Io.KnownBytes.{Consumes}
use Rattle.bt_metadata.specs.Blocks.{max_metadata}
use Rattle.bt_loop.proofs.looped.read_metadata.Given as goal

-- what was read so far
abbrev pub invariant-reads : goal.invariant-reads
invariant-reads g l = record {
  read : Consumes (g.R.Source.seen l.initial.reader).left (g.R.Source.seen l.reader).left l.metadata.items;
  short : length l.metadata.items ≤ max_metadata;
  failed : (g.R.Source.seen l.reader).failed ≡ (g.R.Source.seen l.initial.reader).failed;
  ends : (g.R.Source.seen l.reader).ends ≡ (g.R.Source.seen l.initial.reader).ends;
}

abbrev pub decreases-reads : goal.decreases-reads
decreases-reads g l = max_metadata + 1 - length l.metadata.items
