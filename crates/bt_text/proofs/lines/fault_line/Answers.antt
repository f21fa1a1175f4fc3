use Rattle.std.proofs.Common.{rules}
use Rattle.bt_text.proofs.lines.fault_line.Goals as goal

pub returns-in-Memory : goal.returns-in-Memory
returns-in-Memory c = search rules
