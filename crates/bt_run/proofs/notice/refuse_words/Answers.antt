use Rattle.std.proofs.Common.{rules}
use Rattle.bt_run.proofs.notice.refuse_words.Goals as goal

pub returns-clause-status : goal.returns-clause-status
returns-clause-status g c = search rules
