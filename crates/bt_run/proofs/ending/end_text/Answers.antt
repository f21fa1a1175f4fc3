use Rattle.std.proofs.Common.{rules}
use Rattle.bt_run.proofs.ending.end_text.Goals as goal

pub returns-in-Err-clause-said : goal.returns-in-Err-clause-said
returns-in-Err-clause-said g c = search rules
