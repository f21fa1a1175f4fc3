use Rattle.std.proofs.Common.{rules}
use Rattle.bt_ext.proofs.table.Table.new.Goals as goal

pub returns : goal.returns
returns g c = search rules
