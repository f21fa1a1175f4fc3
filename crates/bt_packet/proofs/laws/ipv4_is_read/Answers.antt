use Rattle.bt_packet.proofs.Frames.{ipv4_read}
use Rattle.bt_packet.proofs.laws.ipv4_is_read.Goals as goal

pub returns : goal.returns
returns c = ipv4_read
