use Rattle.bt_ext.proofs.LawProofs.{made_handshake_tells}
use Rattle.bt_ext.proofs.laws.made_handshake_tells.Goals as goal

pub returns : goal.returns
returns c = made_handshake_tells
