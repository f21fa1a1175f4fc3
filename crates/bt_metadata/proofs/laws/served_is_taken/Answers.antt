use Rattle.bt_metadata.proofs.LawProofs.{served_is_taken}
use Rattle.bt_metadata.proofs.laws.served_is_taken.Goals as goal

pub returns : goal.returns
returns c = served_is_taken
