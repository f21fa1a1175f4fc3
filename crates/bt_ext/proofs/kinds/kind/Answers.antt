use Rattle.std.proofs.Common.{rules}
use Rattle.bt_ext.proofs.kinds.kind.Goals as goal

pub returns : goal.returns
returns c = search rules
