use Rattle.std.proofs.Common.{rules}
use Rattle.bt_end.proofs.part.new_assembly.Goals as goal

pub returns-in-Ok : goal.returns-in-Ok
returns-in-Ok g c = search rules
