-- What is handed out of a packet: its first 2 ^ 20 bytes are kept.
use Rattle.std.specs.Prelude.{ℕ, ◌==◌, min, List, take, Option, Some, None, if◌then◌else◌}
use Rattle.bt_pcap.specs.Sizes.{keep}
use Rattle.bt_pcap.specs.declared.interfaces.Interface.{Interface}
use Rattle.bt_pcap.specs.Times.{nanos_of, nanos_in}
use Rattle.bt_pcap.specs.Formats.{Captured}

-- the packet of a record, whose fraction counts this many nanoseconds
abbrev pub recorded : ℕ → ℕ → ℕ → ℕ → List ℕ → ℕ → Captured
recorded scale link seconds fraction octets original =
    record { link = link; nanos = nanos_in scale seconds fraction; bytes = take keep octets; original = original }

-- the packet of an interface at a time
abbrev pub packet_at : Interface → ℕ → List ℕ → ℕ → Captured
packet_at i nanos octets original = record { link = i.link; nanos = nanos; bytes = take keep octets; original = original }

-- the packet of an interface; of one that isn't noted there is none
abbrev pub packet_on : Option Interface → ℕ → List ℕ → ℕ → Option Captured
packet_on None ticks octets original = None
packet_on (Some i) ticks octets original = Some (packet_at i (nanos_of i.resolution i.offset ticks) octets original)

-- How many bytes of a simple packet were captured (draft-ietf-opsawg-pcapng 4.4): the lesser of the interface's snap length and the length on the
-- wire. A snap length of 0 is no limit.
abbrev pub snapped : ℕ → ℕ → ℕ
snapped snap original = if snap == 0 then original else min snap original

-- The simple packet of an interface, from its data on, which the padding follows. It has no time stamp, so that no offset moves its time.
abbrev pub simple_on : Option Interface → List ℕ → ℕ → Option Captured
simple_on None octets original = None
simple_on (Some i) octets original = Some (packet_at i 0 (take (snapped i.snap original) octets) original)
