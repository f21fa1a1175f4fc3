use Rattle.bt_utp.proofs.LawProofs.{none_too_much}
use Rattle.bt_utp.proofs.laws.none_is_too_much.Goals as goal

pub returns : goal.returns
returns c = none_too_much
