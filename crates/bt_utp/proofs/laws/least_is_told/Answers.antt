use Rattle.bt_utp.proofs.LawProofs.{least_told}
use Rattle.bt_utp.proofs.laws.least_is_told.Goals as goal

pub returns : goal.returns
returns c = least_told
