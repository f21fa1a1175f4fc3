use Rattle.std.proofs.Common.{rules}
use Rattle.bt_wire.proofs.ids.id_name.Goals as goal

pub returns-in-6-clause-name : goal.returns-in-6-clause-name
returns-in-6-clause-name c = search rules
