use Rattle.bt_ext.proofs.LawProofs.{table_stays}
use Rattle.bt_ext.proofs.laws.table_stays.Goals as goal

pub returns : goal.returns
returns c = table_stays
