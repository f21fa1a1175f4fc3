use Rattle.std.proofs.Common.{rules}
use Rattle.bt_run.proofs.ending.end_job.Goals as goal

pub returns-in-None-clause-said : goal.returns-in-None-clause-said
returns-in-None-clause-said g c = search rules
