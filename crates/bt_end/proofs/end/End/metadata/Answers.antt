use Rattle.std.proofs.Common.{rules}
use Rattle.bt_end.proofs.end.End.metadata.Goals as goal

pub returns-clause-value : goal.returns-clause-value
returns-clause-value g c = search rules
