use Rattle.std.proofs.Common.{rules}
use Rattle.bt_ext.proofs.spelling.ext_reason.Goals as goal

pub returns-else-block_ok : goal.returns-else-block_ok
returns-else-block_ok c = search rules
