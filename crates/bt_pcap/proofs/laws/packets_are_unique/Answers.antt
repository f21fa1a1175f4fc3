use Rattle.bt_pcap.proofs.LawProofs.{packets_are_unique}
use Rattle.bt_pcap.proofs.laws.packets_are_unique.Goals as goal

pub returns : goal.returns
returns c = packets_are_unique
