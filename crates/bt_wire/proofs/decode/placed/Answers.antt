use Rattle.std.proofs.Common.{rules}
use Rattle.bt_wire.proofs.decode.placed.Goals as goal

pub returns-in-BadExtLength : goal.returns-in-BadExtLength
returns-in-BadExtLength c = search rules
