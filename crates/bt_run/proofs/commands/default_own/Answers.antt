use Rattle.std.proofs.Common.{rules}
use Rattle.bt_run.proofs.commands.default_own.Goals as goal

pub returns : goal.returns
returns c = search rules
