use Rattle.std.proofs.Common.{rules}
use Rattle.bt_io.proofs.memory.MemTarget.new.Goals as goal

pub returns-clause-most : goal.returns-clause-most
returns-clause-most c = search rules
