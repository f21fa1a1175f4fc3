use Rattle.std.proofs.Common.{rules}
use Rattle.bt_end.proofs.config.Window.get.Goals as goal

pub returns-clause-same : goal.returns-clause-same
returns-clause-same c = search rules
