use Rattle.std.proofs.Common.{rules}
use Rattle.bt_end.proofs.config.WindowDefault.default.Goals as goal

pub returns : goal.returns
returns c = search rules
