-- What a packet carries.
use Rattle.std.specs.Prelude.{ℕ, List, Option, Some, None}
use Rattle.bt_packet.specs.Tcp.{TcpSegment, segment, segment_of}
use Rattle.bt_packet.specs.Unread.{unread}
use Rattle.bt_packet.specs.Utp.{UtpPacket, utp_of, utp_packet}
use Rattle.bt_packet.specs.declared.unread.Unread.{Unread}
use Rattle.bt_capture.specs.declared.sight.Sight.{Sight}
use Rattle.bt_capture.specs.declared.sight.Sight.TheVariants as sight

-- a segment of TCP, a packet of uTP, or why there is neither
pub data Seen : Type 0 where
  SawSegment : TcpSegment → Seen
  SawUtp : UtpPacket → Seen
  SawOther : Unread → Seen

abbrev pub seen : Sight → Seen
seen (sight.Segment s) = SawSegment (segment s)
seen (sight.Utp u) = SawUtp (utp_packet u)
seen (sight.Other why) = SawOther why

abbrev pub utp_or : Option UtpPacket → Seen → Seen
utp_or (Some u) other = SawUtp u
utp_or None other = other

abbrev pub segment_or : Option TcpSegment → Seen → Seen
segment_or (Some s) other = SawSegment s
segment_or None other = other

-- the segment that the frame carries, or else its packet of uTP, or else why there is none
abbrev pub seen_in : ℕ → List ℕ → ℕ → Seen
seen_in link bytes wire = segment_or (segment_of link bytes wire) (utp_or (utp_of link bytes wire) (SawOther (unread link bytes)))
