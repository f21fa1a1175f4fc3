use Rattle.bt_ext.proofs.LawProofs.{entered_by_name}
use Rattle.bt_ext.proofs.laws.entered_by_name.Goals as goal

pub returns : goal.returns
returns c = entered_by_name
