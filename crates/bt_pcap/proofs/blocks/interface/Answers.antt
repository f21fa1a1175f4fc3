use Rattle.std.proofs.Common.{rules}
use Rattle.bt_pcap.specs.Reading.{read_interface}
use Rattle.bt_pcap.proofs.blocks.interface.Goals as goal

pub returns : goal.returns
unfolding read_interface
returns c = search rules
