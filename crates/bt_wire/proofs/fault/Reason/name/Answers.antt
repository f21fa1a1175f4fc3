use Rattle.std.proofs.Common.{rules}
use Rattle.bt_wire.proofs.fault.Reason.name.Goals as goal

pub returns-in-Late-clause-name : goal.returns-in-Late-clause-name
returns-in-Late-clause-name c = search rules
