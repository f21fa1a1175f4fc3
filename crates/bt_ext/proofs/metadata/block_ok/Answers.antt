use Rattle.std.proofs.Common.{rules}
use Rattle.bt_ext.proofs.metadata.block_ok.Goals as goal

pub returns-then-left-gt0 : goal.returns-then-left-gt0
returns-then-left-gt0 c = search rules
