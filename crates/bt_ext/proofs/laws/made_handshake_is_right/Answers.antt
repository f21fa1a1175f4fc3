use Rattle.bt_ext.proofs.LawProofs.{made_handshake_is_right}
use Rattle.bt_ext.proofs.laws.made_handshake_is_right.Goals as goal

pub returns : goal.returns
returns c = made_handshake_is_right
