-- The two ends of a connection.
use Rattle.std.specs.Prelude.{◌&&◌, if◌then◌else◌}
use Rattle.bt_remarks.specs.declared.events.Side.{Side}
use Rattle.bt_remarks.specs.declared.events.Side.TheVariants.{A, B}
use Rattle.bt_packet.specs.declared.address.Address.{Address}
use Rattle.bt_packet.specs.declared.tcp.Segment.{Segment}
use Rattle.bt_talk.specs.declared.ends.Ends.{Ends}

-- A is the source of the first segment, unless that answers a SYN (RFC 9293 3.5).
abbrev pub ends_by : Segment → Ends
ends_by s = if s.flags.syn && s.flags.ack then record { a = s.target; b = s.source } else record { a = s.source; b = s.target }

abbrev pub address_of : Side → Ends → Address
address_of A ends = ends.a
address_of B ends = ends.b
