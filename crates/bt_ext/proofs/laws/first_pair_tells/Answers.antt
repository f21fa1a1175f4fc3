use Rattle.bt_ext.proofs.LawProofs.{first_pair_tells}
use Rattle.bt_ext.proofs.laws.first_pair_tells.Goals as goal

pub returns : goal.returns
returns c = first_pair_tells
