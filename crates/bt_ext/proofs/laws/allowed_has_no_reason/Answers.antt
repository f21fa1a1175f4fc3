use Rattle.bt_ext.proofs.LawProofs.{allowed_has_no_reason}
use Rattle.bt_ext.proofs.laws.allowed_has_no_reason.Goals as goal

pub returns : goal.returns
returns c = allowed_has_no_reason
