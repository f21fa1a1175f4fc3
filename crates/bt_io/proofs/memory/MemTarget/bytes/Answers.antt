use Rattle.std.proofs.Common.{rules}
use Rattle.bt_io.proofs.memory.MemTarget.bytes.Goals as goal

pub returns : goal.returns
returns c = search rules
