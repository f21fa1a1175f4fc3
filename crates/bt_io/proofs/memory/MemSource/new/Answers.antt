use Rattle.std.proofs.Common.{rules}
use Rattle.bt_io.proofs.memory.MemSource.new.Goals as goal

pub returns-clause-counts : goal.returns-clause-counts
returns-clause-counts c = search rules
