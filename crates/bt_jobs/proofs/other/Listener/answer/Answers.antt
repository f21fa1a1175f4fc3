use Rattle.std.proofs.Common.{rules}
use Rattle.bt_jobs.proofs.other.Listener.answer.Goals as goal

pub returns : goal.returns
returns c = search rules
