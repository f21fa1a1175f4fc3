use Rattle.bt_bencode.proofs.LawProofs.{none_is_misplaced}
use Rattle.bt_bencode.proofs.laws.none_is_misplaced.Goals as goal

pub returns : goal.returns
returns c = none_is_misplaced
