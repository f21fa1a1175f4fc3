use Rattle.bt_ext.proofs.LawProofs.{made_message_is_right}
use Rattle.bt_ext.proofs.laws.made_message_is_right.Goals as goal

pub returns : goal.returns
returns c = made_message_is_right
