use Rattle.std.proofs.Common.{rules}
use Rattle.bt_run.proofs.run.do_job.Goals as goal

pub returns-in-Show-clause-done : goal.returns-in-Show-clause-done
returns-in-Show-clause-done g c = search rules
