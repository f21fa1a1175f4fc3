use Rattle.std.proofs.Common.{rules}
use Rattle.bt_ext.proofs.ids.ExtId.get.Goals as goal

pub returns-clause-same : goal.returns-clause-same
returns-clause-same c = search rules
