use Rattle.bt_ext.proofs.LawProofs.{one_fault}
use Rattle.bt_ext.proofs.laws.one_fault.Goals as goal

pub returns : goal.returns
returns c = one_fault
