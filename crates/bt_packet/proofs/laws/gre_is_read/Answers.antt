use Rattle.bt_packet.proofs.Carriers.{gre_read}
use Rattle.bt_packet.proofs.laws.gre_is_read.Goals as goal

pub returns : goal.returns
returns c = gre_read
