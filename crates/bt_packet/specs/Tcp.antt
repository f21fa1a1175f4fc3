-- Segments of TCP.
use Rattle.std.specs.Prelude.{ℕ, ◌-◌, ◌*◌, ◌/◌, ◌==◌, nat_lt, bit_and, Bool, List, ◌∷◌, drop, Option, Some, None, option_and_then, if◌then◌else◌}
use Rattle.bt_packet.specs.Bytes.{word, long_word}
use Rattle.bt_packet.specs.Ip.{Contents, carried}
use Rattle.bt_packet.specs.declared.address.Host.{Host}
use Rattle.bt_packet.specs.declared.address.Address.{Address}
use Rattle.bt_packet.specs.declared.tcp.Flags.{Flags}
use Rattle.bt_packet.specs.declared.tcp.Segment.{Segment}

-- A segment: of its data these bytes were captured, and its size is that on the wire.
pub record TcpSegment : Type 0 where
  pub source : Address
  pub target : Address
  pub sequence : ℕ
  pub acked : Option ℕ
  pub flags : Flags
  pub payload : List ℕ
  pub size : ℕ

abbrev pub segment : Segment → TcpSegment
segment s = record { source = s.source; target = s.target; sequence = s.sequence; acked = s.acked; flags = s.flags; payload = s.payload.now; size = s.length }

-- a port of a host, by its two bytes
abbrev pub port_of : Host → ℕ → ℕ → Address
port_of host a b = record { host = host; port = word a b }

abbrev pub has_bit : ℕ → ℕ → Bool
has_bit bits bit = nat_lt 0 (bit_and bits bit)

-- the control bits, of which FIN is the lowest (RFC 9293 3.1)
abbrev pub flags_of : ℕ → Flags
flags_of bits = record { fin = has_bit bits 1; syn = has_bit bits 2; rst = has_bit bits 4; ack = has_bit bits 16 }

-- an acknowledgment number counts with the bit ACK (RFC 9293 3.1)
abbrev pub acked_of : Bool → ℕ → Option ℕ
acked_of ack number = if ack then Some number else None

-- RFC 9293 3.1: 20 bytes, options up to the data offset, which counts words of 4 bytes, and data. `size` is the segment's on the wire.
unfoldable pub tcp : Host → Host → ℕ → List ℕ → Option TcpSegment
tcp source target size (s0 ∷ s1 ∷ d0 ∷ d1 ∷ n0 ∷ n1 ∷ n2 ∷ n3 ∷ a0 ∷ a1 ∷ a2 ∷ a3 ∷ offset ∷ bits ∷ w0 ∷ w1 ∷ k0 ∷ k1 ∷ u0 ∷ u1 ∷ rest) =
    if nat_lt (offset / 16) 5 then None
    else Some (record {
      source = port_of source s0 s1;
      target = port_of target d0 d1;
      sequence = long_word n0 n1 n2 n3;
      acked = acked_of (has_bit bits 16) (long_word a0 a1 a2 a3);
      flags = flags_of bits;
      payload = drop (4 * (offset / 16) - 20) rest;
      size = size - 4 * (offset / 16);
    })
tcp source target size bytes = None

-- the protocol 6 is TCP
abbrev pub segment_in : Contents → Option TcpSegment
segment_in c = if c.protocol == 6 then tcp c.source c.target c.size c.payload else None

-- the segment that a frame carries, if the frame is `wire` bytes long on the wire
abbrev pub segment_of : ℕ → List ℕ → ℕ → Option TcpSegment
segment_of link bytes wire = option_and_then segment_in (carried link bytes wire)
