use Rattle.std.proofs.Common.{rules}
use Rattle.bt_ext.proofs.spelling.ext_len.Goals as goal

pub returns-in-Some : goal.returns-in-Some
returns-in-Some c = search rules
