use Rattle.std.proofs.Common.{rules}
use Rattle.bt_run.proofs.ending.end_by_fault.Goals as goal

pub returns-in-Write-clause-status : goal.returns-in-Write-clause-status
returns-in-Write-clause-status g c = search rules
