use Rattle.std.proofs.Common.{rules}
use Rattle.bt_run.proofs.commands.pack_status.Goals as goal

pub returns-in-Ok-Refused : goal.returns-in-Ok-Refused
returns-in-Ok-Refused c = search rules
