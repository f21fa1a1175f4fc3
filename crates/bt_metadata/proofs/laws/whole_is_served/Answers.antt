use Rattle.bt_metadata.proofs.LawProofs.{whole_is_served}
use Rattle.bt_metadata.proofs.laws.whole_is_served.Goals as goal

pub returns : goal.returns
returns c = whole_is_served
