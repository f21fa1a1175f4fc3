-- The segments of a capture, in the order of its packets, and how many packets aren't TCP.
use Rattle.std.specs.Prelude.{◌≡◌, ◌⊎◌, ℕ, ◌+◌, ◌-◌, ◌^◌, ◌<◌, ◌≤◌, min, Bool, true, false, not, ◌&&◌, ◌==◌, List, [], ◌∷◌, ◌++◌, length, Option, Some, None}
use Rattle.std.specs.Prelude.{is_some, if◌then◌else◌}
use Rattle.std.specs.List.{All, filter}
use Rattle.bt_packet.specs.Tcp.{TcpSegment, segment}
use Rattle.bt_packet.specs.Utp.{UtpPacket}
use Rattle.bt_packet.specs.declared.tcp.Flags.{Flags}
use Rattle.bt_packet.specs.declared.tcp.Segment.{Segment}
use Rattle.bt_pcap.specs.Formats.{Captured}
use Rattle.bt_talk.specs.declared.closing.When.{When}
use Rattle.bt_order.specs.declared.link.Link.{Link}
use Rattle.bt_order.specs.declared.link.Turned.{Turned}
use Rattle.bt_utp.specs.declared.connection.Connection.{Connection}
use Rattle.bt_utp.specs.Channels.{Table, no_connections, connection_of, after_packet, is_from_initiator}
use Rattle.bt_utp.specs.Taken.{Taken}
use Rattle.bt_utp.specs.Turnings.{IsRun, packets_of}
use Rattle.bt_capture.specs.declared.pair.Pair.{Pair}
use Rattle.bt_capture.specs.Pairs.{pair, with_link}
use Rattle.bt_capture.specs.Sights.{Seen, SawSegment, SawUtp, SawOther, seen_in}
use Rattle.bt_capture.specs.Tables.{same_pair}

-- a captured segment, where its packet stands in the capture, and the number of its connection of uTP; a segment of TCP has none
pub record Arrival : Type 0 where
  pub segment : TcpSegment
  pub when : When
  pub link : Option ℕ

abbrev pub arrived : Option ℕ → Segment → When → Arrival
arrived link s when = record { segment = segment s; when = when; link = link }

-- its ends, whichever of them sent it, and its connection of uTP
abbrev pub pair_of : Arrival → Pair
pair_of a = with_link a.link (pair a.segment.source a.segment.target)

-- It is between the two ends, and of the same connection of uTP if it is of one.
abbrev pub is_between : Pair → Arrival → Bool
is_between k a = same_pair k (pair_of a)

-- It has a captured byte of its sender's stream; one with RST has none (RFC 9293 3.5.2).
abbrev pub has_data : Arrival → Bool
has_data a = not a.segment.flags.rst && not (length a.segment.payload == 0)

-- ---- packets of uTP

abbrev pub turned_flags : Turned → Flags
turned_flags t = record { fin = t.is_fin; syn = t.is_syn; rst = t.is_reset; ack = is_some t.acked }

-- The segment that a packet of a connection was turned into, with this payload. How many bytes a missing packet had isn't known: it counts as one byte
-- after the payload that wasn't captured.
abbrev pub turned_segment : Connection → Bool → Turned → List ℕ → TcpSegment
turned_segment c is_initiator t payload = record {
  source = if is_initiator then c.initiator else c.acceptor;
  target = if is_initiator then c.acceptor else c.initiator;
  sequence = t.sequence;
  acked = t.acked;
  flags = turned_flags t;
  payload = payload;
  size = length payload + (if t.is_missing then 1 else 0);
}

-- the packet came then, and this was made of it
abbrev pub turned_arrival : Taken → When → Arrival
turned_arrival x when = record {
  segment = turned_segment x.connection (is_from_initiator x.connection x.packet) x.turned x.bytes;
  when = when;
  link = Some x.connection.number;
}

-- A packet of a connection is turned into a segment, and other packets of uTP aren't.
abbrev pub IsTurnedArrival : Option Connection → UtpPacket → When → List Taken → List Arrival → Type 0
IsTurnedArrival None d when xs came = (xs ≡ []) × (came ≡ [])
IsTurnedArrival (Some c) d when xs came = (x : Taken) × (x.connection ≡ c) × (x.packet ≡ d) × (xs ≡ x ∷ []) × (came ≡ turned_arrival x when ∷ [])

-- ---- the segments of a capture

-- With these connections of uTP this is the segment that a packet carries or is turned into, if there is one, and what was turned.
abbrev pub IsArrival : Table → Seen → When → List Taken → List Arrival → Type 0
IsArrival t (SawSegment s) when xs came = (xs ≡ []) × (came ≡ record { segment = s; when = when; link = None } ∷ [])
IsArrival t (SawUtp d) when xs came = IsTurnedArrival (connection_of t d) d when xs came
IsArrival t (SawOther w) when xs came = (xs ≡ []) × (came ≡ [])

-- the connections of uTP after a packet
abbrev pub after_seen : Table → Seen → Table
after_seen t (SawSegment s) = t
after_seen t (SawUtp d) = after_packet t d
after_seen t (SawOther w) = t

abbrev pub seen_of : Captured → Seen
seen_of p = seen_in p.link p.bytes p.original

abbrev pub table_after : Table → List Captured → Table
table_after t [] = t
table_after t (p ∷ ps) = table_after (after_seen t (seen_of p)) ps

-- when a packet came, before which the capture has n others
abbrev pub when_of : ℕ → Captured → When
when_of n p = record { nanos = p.nanos; packet = min (n + 1) (2 ^ 64 - 1) }

-- These are the segments of packets, before which the capture has n others and uTP these connections, and what was turned of them.
abbrev pub AreArrivals : ℕ → Table → List Captured → List Taken → List Arrival → Type 0
AreArrivals n t [] xs came = (xs ≡ []) × (came ≡ [])
AreArrivals n t (p ∷ ps) xs came =
    (first rest : List Taken) × (now later : List Arrival) × (xs ≡ first ++ rest) × (came ≡ now ++ later)
    × IsArrival t (seen_of p) (when_of n p) first now × AreArrivals (n + 1) (after_seen t (seen_of p)) ps rest later

-- The packets of each connection that began were turned, in order, from its SYN on, and no others were.
pub record AreTurnedAll (t : Table) (xs : List Taken) : Type 0 where
  pub all : (n : ℕ) → n < t.begun → (c : Connection) × (c.number ≡ n) × ((last : Link) × IsRun c (packets_of n xs) last)
  pub none : (n : ℕ) → t.begun ≤ n → packets_of n xs ≡ []

-- These are the segments of a capture's packets, which are numbered from 1 on.
pub record HaveCome (packets : List Captured) (came : List Arrival) : Type 0 where
  pub taken : List Taken
  pub are : AreArrivals 0 no_connections packets taken came
  pub turned : AreTurnedAll (table_after no_connections packets) taken

-- The same, or memory ran out with the last packet before it was turned.
abbrev pub MayHaveCome : List Captured → List Arrival → Type 0
MayHaveCome packets came = HaveCome packets came ⊎ ((before : List Captured) × (p : Captured) × (packets ≡ before ++ p ∷ []) × HaveCome before came)

-- when these packets came, before which the capture has n others
abbrev pub clock_after : ℕ → List Captured → List When
clock_after n [] = []
clock_after n (p ∷ ps) = when_of n p ∷ clock_after (n + 1) ps

-- the packets that came, and the number of the one that is taken, or was taken last
pub record Clock : Type 0 where
  pub packets : List When
  pub number : ℕ

-- once a capture's packets were taken
abbrev pub clock_of : List Captured → Clock
clock_of packets = record { packets = clock_after 0 packets; number = min (length packets) (2 ^ 64 - 1) }

-- once the packet that is taken is one of those that came
abbrev pub with_packet : When → Clock → Clock
with_packet when clock = record { packets = clock.packets ++ when ∷ []; number = clock.number }

-- This packet comes before the one with this number. Numbers don't grow past 2 ^ 64 - 1.
abbrev pub IsEarlier : When → ℕ → Type 0
IsEarlier at number = min (at.packet + 1) (2 ^ 64 - 1) ≤ number

-- All of these packets come before the one with this number.
abbrev pub AreEarlier : Clock → ℕ → Type 0
AreEarlier clock number = All (λ at. IsEarlier at number) clock.packets

-- the time of the first packet
abbrev pub first_time : List Captured → Option ℕ
first_time [] = None
first_time (p ∷ ps) = Some p.nanos

-- ---- packets that aren't TCP

abbrev pub is_no_segment : Seen → Bool
is_no_segment (SawSegment s) = false
is_no_segment (SawUtp u) = true
is_no_segment (SawOther w) = true

-- It carries no segment.
abbrev pub is_skipped : Captured → Bool
is_skipped p = is_no_segment (seen_of p)

-- how many carry none, at most 2 ^ 64 - 1
abbrev pub count_skipped : List Captured → ℕ
count_skipped packets = min (length (filter is_skipped packets)) (2 ^ 64 - 1)
