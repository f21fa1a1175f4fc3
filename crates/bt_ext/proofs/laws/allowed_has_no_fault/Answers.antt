use Rattle.bt_ext.proofs.LawProofs.{allowed_has_no_fault}
use Rattle.bt_ext.proofs.laws.allowed_has_no_fault.Goals as goal

pub returns : goal.returns
returns c = allowed_has_no_fault
