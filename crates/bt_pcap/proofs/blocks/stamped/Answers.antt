use Rattle.std.proofs.Common.{rules}
use Rattle.bt_pcap.specs.Reading.{read_stamped}
use Rattle.bt_pcap.proofs.blocks.stamped.Goals as goal

pub returns : goal.returns
unfolding read_stamped
returns c = search rules
