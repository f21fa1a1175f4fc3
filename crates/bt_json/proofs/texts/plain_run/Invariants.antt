use Rattle.std.proofs.Common.{◌-◌, ◌≤◌, length}
use Rattle.json.specs.Written.{PlainBetween}
use Rattle.bt_json.proofs.texts.plain_run.Given as goal

abbrev pub invariant-loop-run : goal.invariant-loop-run
invariant-loop-run l = (l.run ≤ length l.bytes) × PlainBetween l.bytes 0 l.run

abbrev pub decreases-loop-run : goal.decreases-loop-run
decreases-loop-run l = length l.bytes - l.run
