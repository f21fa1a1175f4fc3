use Rattle.bt_utp.proofs.LawProofs.{all_counted}
use Rattle.bt_utp.proofs.laws.all_are_counted.Goals as goal

pub returns : goal.returns
returns c = all_counted
