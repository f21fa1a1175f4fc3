use Rattle.bt_packet.proofs.Carriers.{mpls_read}
use Rattle.bt_packet.proofs.laws.mpls_is_read.Goals as goal

pub returns : goal.returns
returns c = mpls_read
