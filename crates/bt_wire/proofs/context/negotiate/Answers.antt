use Rattle.std.proofs.Common.{rules}
use Rattle.bt_wire.proofs.context.negotiate.Goals as goal

pub returns : goal.returns
returns c = search rules
