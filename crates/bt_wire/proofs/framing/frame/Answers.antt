use Rattle.std.proofs.Common.{rules}
use Rattle.bt_wire.proofs.framing.frame.Goals as goal

pub returns : goal.returns
returns c = search rules
