use Rattle.bt_utp.proofs.Runs.{of_other}
use Rattle.bt_utp.proofs.laws.others_change_nothing.Goals as goal

pub returns : goal.returns
returns c = of_other
