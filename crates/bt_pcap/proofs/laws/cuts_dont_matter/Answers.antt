use Rattle.bt_pcap.proofs.LawProofs.{cuts_dont_matter}
use Rattle.bt_pcap.proofs.laws.cuts_dont_matter.Goals as goal

pub returns : goal.returns
returns c = cuts_dont_matter
