use Rattle.std.proofs.Common.{rules}
use Rattle.bt_wire.proofs.encoding.encode.Goals as goal

pub returns-in_ok-spelled-in-Ok : goal.returns-in_ok-spelled-in-Ok
returns-in_ok-spelled-in-Ok c = search rules
