use Rattle.std.proofs.Common.{length, ◌≤◌}
use Rattle.std.specs.Io.KnownBytes.{Consumes}
use Rattle.bt_cli.proofs.input.read_whole.Given as goal

-- what was read so far
abbrev pub invariant-loop-read : goal.invariant-loop-read
invariant-loop-read g l = Consumes (g.R.Source.seen l.initial.reader).left (g.R.Source.seen l.reader).left l.text.items × (length l.text.items ≤ l.most)
