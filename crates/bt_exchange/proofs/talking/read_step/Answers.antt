use Rattle.std.proofs.Common.{rules}
use Rattle.bt_exchange.proofs.talking.read_step.Goals as goal

pub returns-in-Ok-Some-eq0 : goal.returns-in-Ok-Some-eq0
returns-in-Ok-Some-eq0 c = search rules
