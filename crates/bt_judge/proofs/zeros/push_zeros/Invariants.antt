use Rattle.std.proofs.Common.{◌≤◌, ◌-◌}
use Rattle.bt_judge.specs.Holes.{AreZerosPushed}
use Rattle.bt_judge.proofs.zeros.push_zeros.Given as goal

abbrev pub invariant-zeros : goal.invariant-zeros
invariant-zeros l = record { within : l.left ≤ l.n; pushed : AreZerosPushed l.fn.feed (l.n - l.left) l.feed }

abbrev pub decreases-zeros : goal.decreases-zeros
decreases-zeros l = l.left
