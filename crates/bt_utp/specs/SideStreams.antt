-- The streams of the two sides of a connection.
use Rattle.std.specs.Prelude.{◌≡◌, ◌≢◌, ℕ, ◌<◌, ◌⊎◌, not, Bool, true, false, List, [], ◌∷◌, ◌++◌, if◌then◌else◌}
use Rattle.bt_packet.specs.declared.utp.UtpKind.{UtpKind}
use Rattle.bt_packet.specs.declared.utp.UtpKind.TheVariants.{Data, Fin}
use Rattle.bt_order.specs.declared.direction.Direction.{Direction}
use Rattle.bt_order.specs.declared.link.Link.{Link}
use Rattle.bt_order.specs.Numbers.{HasNumber}
use Rattle.bt_order.specs.Streams.{Packet}
use Rattle.bt_order.specs.Directions.{IsDirectionOf}
use Rattle.bt_order.specs.Links.{is_fin}
use Rattle.bt_utp.specs.declared.connection.Connection.{Connection}
use Rattle.bt_utp.specs.declared.links.Links.{Links}
use Rattle.bt_utp.specs.Channels.{Table, is_from_initiator}
use Rattle.bt_utp.specs.Taken.{Taken, link_kind}
use Rattle.bt_utp.specs.Turnings.{IsRun, AreLinked, packets_of}

-- The initiator's side (true) sent the packet, or the acceptor's (false).
abbrev pub is_of_side : Bool → Connection → Taken → Bool
is_of_side true c x = is_from_initiator c x.packet
is_of_side false c x = not (is_from_initiator c x.packet)

-- the payloads of a side's segments, joined
abbrev pub bytes_of : Bool → Connection → List Taken → List ℕ
bytes_of side c [] = []
bytes_of side c (x ∷ xs) = (if is_of_side side c x then x.bytes else []) ++ bytes_of side c xs

-- ST_DATA and ST_FIN have a number of their own.
abbrev pub is_numbered : UtpKind → Bool
is_numbered Data = true
is_numbered Fin = true
is_numbered kind = false

-- The side sent the packet, and it has the index's number.
pub record IsSent (side : Bool) (c : Connection) (first : ℕ) (x : Taken) (p : Packet) : Type 0 where
  pub sender : is_of_side side c x ≡ true
  pub numbered : is_numbered x.packet.kind ≡ true
  pub number : HasNumber first p.index x.packet.number
  pub fin : p.is_fin ≡ is_fin (link_kind x.packet.kind)
  pub bytes : p.bytes ≡ x.packet.payload
  pub size : p.size ≡ x.packet.size

-- The packet is none of the side's, or its segment says that a byte is missing.
abbrev pub IsLeftOut : Bool → Connection → Taken → Type 0
IsLeftOut side c x = (is_of_side side c x ≡ false) ⊎ ((is_numbered x.packet.kind ≡ false) ⊎ (x.turned.is_missing ≡ true))

-- The side sent these packets, if the first one has this number. The acceptor's first number may be learnt late: what came before doesn't count.
pub data AreSent (side : Bool) (c : Connection) (first : ℕ) : List Taken → List Packet → Type 0 where
  none : AreSent side c first [] []
  learnt : (xs : List Taken) → side ≡ false → AreSent side c first xs []
  left_out : (xs : List Taken) (ps : List Packet) (x : Taken) → AreSent side c first xs ps → IsLeftOut side c x → AreSent side c first (xs ++ x ∷ []) ps
  sent : (xs : List Taken) (ps : List Packet) (x : Taken) (p : Packet) → AreSent side c first xs ps → IsSent side c first x p
      → AreSent side c first (xs ++ x ∷ []) (ps ++ p ∷ [])

-- A direction has the stream of the packets that its side sent, and handed out what the side's segments have.
pub record IsSideStream (side : Bool) (c : Connection) (xs : List Taken) (d : Direction) : Type 0 where
  pub packets : List Packet
  pub are_sent : AreSent side c d.first xs packets
  pub direction : IsDirectionOf packets (bytes_of side c xs) d

-- Each side's segments have the stream of the packets that it sent. The acceptor's have no byte before its first number is known.
pub record AreSideStreams (c : Connection) (xs : List Taken) (link : Link) : Type 0 where
  pub initiator : IsSideStream true c xs link.initiator
  pub acceptor : link.is_known ≡ true → IsSideStream false c xs link.acceptor
  pub unknown : link.is_known ≡ false → bytes_of false c xs ≡ []

abbrev pub RunsAreStreams : Type 0
RunsAreStreams = (c : Connection) (xs : List Taken) (link : Link) → IsRun c xs link → AreSideStreams c xs link

-- So the segments of each connection that began have the streams of its two sides.
abbrev pub ConnectionsAreStreams : Type 0
ConnectionsAreStreams = (t : Table) (xs : List Taken) (s : Links) → AreLinked t xs s → (n : ℕ) → n < t.begun
    → (c : Connection) × (c.number ≡ n) × ((link : Link) × AreSideStreams c (packets_of n xs) link)

-- A packet of another connection changes nothing of a connection's segments.
abbrev pub OthersChangeNothing : Type 0
OthersChangeNothing = (n : ℕ) (xs : List Taken) (x : Taken) → x.connection.number ≢ n → packets_of n (xs ++ x ∷ []) ≡ packets_of n xs
