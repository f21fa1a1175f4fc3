use Rattle.bt_packet.proofs.FoundTcp.{segment_found}
use Rattle.bt_packet.proofs.ReadAll.{segment_read}
use Rattle.bt_packet.proofs.laws.segment_is_read.Goals as goal

pub returns : goal.returns
returns c link bytes wire s = (segment_read link bytes wire s, segment_found link bytes wire s)
