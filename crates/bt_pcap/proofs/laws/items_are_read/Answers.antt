use Rattle.bt_pcap.proofs.LawProofs.{items_are_read}
use Rattle.bt_pcap.proofs.laws.items_are_read.Goals as goal

pub returns : goal.returns
returns c = items_are_read
