use Rattle.std.proofs.Common.{length}
use Rattle.bt_text.proofs.script.misfit.+push_samples.Given as goal

abbrev pub decreases-push_samples : goal.decreases-push_samples
decreases-push_samples l = length l.expected.now
