use Rattle.std.proofs.Common.{rules}
use Rattle.bt_c.proofs.reader.is_quick.Goals as goal

pub returns-in-4 : goal.returns-in-4
returns-in-4 c = search rules
