use Rattle.bt_packet.proofs.Carriers.{pppoe_read}
use Rattle.bt_packet.proofs.laws.pppoe_is_read.Goals as goal

pub returns : goal.returns
returns c = pppoe_read
