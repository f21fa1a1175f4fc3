use Rattle.bt_packet.proofs.Datagrams.{too_long}
use Rattle.bt_packet.proofs.laws.chain_has_to_fit.Goals as goal

pub returns : goal.returns
returns c = too_long
