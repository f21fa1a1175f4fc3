use Rattle.bt_pcap.proofs.LawProofs.{items_have_no_fault}
use Rattle.bt_pcap.proofs.laws.items_have_no_fault.Goals as goal

pub returns : goal.returns
returns c = items_have_no_fault
