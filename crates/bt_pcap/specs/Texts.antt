-- What a user is told.
use Rattle.std.specs.Prelude.{ℕ, List, codes}
use Rattle.bt_pcap.specs.declared.fault.FileFault.{FileFault}
use Rattle.bt_pcap.specs.declared.fault.FileFault.TheVariants.{NoCapture, ByteOrder, Length, TooShort, RecordLength, Undescribed, Unlike}

abbrev pub text_of : FileFault → List ℕ
text_of NoCapture = codes "neither a pcap nor a pcapng file"
text_of ByteOrder = codes "a section of a pcapng file has an unknown byte order"
text_of Length = codes "a block of a pcapng file has an impossible length"
text_of TooShort = codes "a block of a pcapng file is too short"
text_of RecordLength = codes "a record of a pcap file has an impossible length"
text_of Unlike = codes "the two lengths of a block of a pcapng file differ"
text_of Undescribed = codes "a packet of a pcapng file names an interface that isn't described, or is beyond the first 1,024"
