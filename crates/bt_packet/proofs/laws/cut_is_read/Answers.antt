use Rattle.bt_packet.proofs.Frames.{cut_read}
use Rattle.bt_packet.proofs.laws.cut_is_read.Goals as goal

pub returns : goal.returns
returns c = cut_read
