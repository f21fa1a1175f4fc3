use Rattle.std.proofs.Common.{rules}
use Rattle.bt_end.proofs.end.End.new.Goals as goal

pub returns : goal.returns
returns g c = search rules
