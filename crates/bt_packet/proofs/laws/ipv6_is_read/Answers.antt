use Rattle.bt_packet.proofs.Frames.{ipv6_read}
use Rattle.bt_packet.proofs.laws.ipv6_is_read.Goals as goal

pub returns : goal.returns
returns c = ipv6_read
