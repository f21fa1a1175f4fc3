use Rattle.std.proofs.Common.{rules}
use Rattle.bt_pcap.specs.Reading.{read_packet, least}
use Rattle.bt_pcap.proofs.blocks.packet_of.Goals as goal

pub returns-in-3 : goal.returns-in-3
unfolding read_packet least
returns-in-3 c = search rules
