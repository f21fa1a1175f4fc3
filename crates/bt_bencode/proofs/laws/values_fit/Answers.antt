use Rattle.bt_bencode.proofs.LawProofs.{values_fit}
use Rattle.bt_bencode.proofs.laws.values_fit.Goals as goal

pub returns : goal.returns
returns c = values_fit
