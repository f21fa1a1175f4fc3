use Rattle.std.proofs.Common.{rules}
use Rattle.bt_run.proofs.commands.default_rules.Goals as goal

pub returns-in-Check : goal.returns-in-Check
returns-in-Check c = search rules
