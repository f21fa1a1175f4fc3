-- the hint of the lines that follow is that of the text
use Rattle.std.proofs.Common.{ℕ, List, Option, length, ◌+◌, ◌≤◌}
use Rattle.bt_jobs.specs.PackHints.{IsPackHint}
use Rattle.bt_jobs.proofs.pack_hints.pack_hint.Given as goal

abbrev pub invariant-loop-line : goal.invariant-loop-line
invariant-loop-line l = record {
  hint : (hint : Option (List ℕ)) → IsPackHint l.end l.is_all l.number l.rest hint → IsPackHint l.end l.is_all 1 l.text hint;
  bound : l.number + length l.rest ≤ 1 + length l.text;
}

abbrev pub decreases-loop-line : goal.decreases-loop-line
decreases-loop-line l = length l.rest
