use Rattle.std.proofs.Common.{rules}
use Rattle.bt_run.proofs.other.informed.Goals as goal

pub returns : goal.returns
returns c = search rules
