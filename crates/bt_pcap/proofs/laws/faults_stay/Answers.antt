use Rattle.bt_pcap.proofs.LawProofs.{faults_stay}
use Rattle.bt_pcap.proofs.laws.faults_stay.Goals as goal

pub returns : goal.returns
returns c = faults_stay
