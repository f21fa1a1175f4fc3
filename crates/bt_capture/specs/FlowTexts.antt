-- The packets of uTP of a capture (BEP 29), and the lines on them.
use Rattle.std.specs.Prelude.{ℕ, ◌==◌, Bool, List, [], ◌∷◌, if◌then◌else◌}
use Rattle.std.specs.List.{flat_map}
use Rattle.bt_packet.specs.Utp.{UtpPacket}
use Rattle.bt_pcap.specs.Formats.{Captured}
use Rattle.bt_report.specs.Utp.{utp_text, utp_object}
use Rattle.bt_report.specs.declared.utp.UtpPackets.{UtpPackets}
use Rattle.bt_utp.specs.declared.flow.Counted.{Counted}
use Rattle.bt_capture.specs.Sights.{Seen, SawSegment, SawUtp, SawOther, seen_in}

abbrev pub packets_of : Counted → UtpPackets
packets_of f = record {
  source = f.source;
  target = f.target;
  count = f.count;
  is_least = f.is_least;
  source_reason = f.source_reason;
  target_reason = f.target_reason;
}

-- as text, or as a JSON object; none if no datagram has another one near
abbrev pub flow_text : Bool → Counted → List ℕ
flow_text json f = if f.count == 0 then [] else (if json then utp_object (packets_of f) else utp_text (packets_of f))

unfoldable pub flow_texts : Bool → List Counted → List ℕ
flow_texts json fs = flat_map (flow_text json) fs

-- ---- those of a capture

abbrev pub datagrams_in : Seen → List UtpPacket
datagrams_in (SawSegment s) = []
datagrams_in (SawUtp d) = d ∷ []
datagrams_in (SawOther w) = []

-- the packets of uTP that packets carry, in order
abbrev pub datagrams : List Captured → List UtpPacket
datagrams packets = flat_map (λ p. datagrams_in (seen_in p.link p.bytes p.original)) packets
