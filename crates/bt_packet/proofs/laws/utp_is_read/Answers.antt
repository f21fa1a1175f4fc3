use Rattle.bt_packet.proofs.Datagrams.{utp_found, utp_read}
use Rattle.bt_packet.proofs.laws.utp_is_read.Goals as goal

pub returns : goal.returns
returns c link bytes wire p = (utp_read link bytes wire p, utp_found link bytes wire p)
