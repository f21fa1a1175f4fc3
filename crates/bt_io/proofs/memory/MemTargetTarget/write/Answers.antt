use Rattle.std.proofs.Common.{rules}
use Rattle.bt_io.proofs.memory.MemTargetTarget.write.Goals as goal

pub returns-clause-bytes : goal.returns-clause-bytes
returns-clause-bytes c = search rules
