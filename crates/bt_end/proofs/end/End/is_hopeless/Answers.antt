use Rattle.std.proofs.Common.{rules}
use Rattle.bt_end.proofs.end.End.is_hopeless.Goals as goal

pub returns : goal.returns
returns g c = search rules
