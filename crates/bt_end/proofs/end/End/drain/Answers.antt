use Rattle.std.proofs.Common.{rules}
use Rattle.bt_end.proofs.end.End.drain.Goals as goal

pub returns-clause-count : goal.returns-clause-count
returns-clause-count g c = search rules
