use Rattle.bt_ext.proofs.LawProofs.{applied_by_name}
use Rattle.bt_ext.proofs.laws.applied_by_name.Goals as goal

pub returns : goal.returns
returns c = applied_by_name
