use Rattle.std.proofs.Common.{rules}
use Rattle.bt_end.proofs.end.End.receive.Goals as goal

pub returns-clause-taken : goal.returns-clause-taken
returns-clause-taken g c = search rules

pub returns-clause-end : goal.returns-clause-end
returns-clause-end g c = search rules
