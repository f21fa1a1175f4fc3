-- Laws of connections and their channels.
use Rattle.std.specs.Prelude.{◌≡◌, ◌≢◌, ◌+◌, ◌-◌, ◌%◌, ◌^◌, ◌<◌, ◌≤◌, ◌⊎◌, true, false, List, Some}
use Rattle.bt_packet.specs.Utp.{UtpPacket}
use Rattle.bt_utp.specs.declared.connection.Connection.{Connection}
use Rattle.bt_utp.specs.Channels.{Table, Event, is_syn, is_reset, begins, begun_by, connection_of, after_packet, table_of}

-- BEP 29, "connection setup": the initiator sends with the SYN's id and one, the acceptor with the SYN's id.
abbrev pub IsOnChannel : Connection → UtpPacket → Type 0
IsOnChannel c d =
    ((d.source ≡ c.initiator) × (d.target ≡ c.acceptor) × (d.id ≡ (c.id + 1) % 2 ^ 16)) ⊎ ((d.source ≡ c.acceptor) × (d.target ≡ c.initiator) × (d.id ≡ c.id))

-- A packet that is neither ST_SYN nor ST_RESET is on a channel of its connection.
abbrev pub EachIsOnItsChannel : Type 0
EachIsOnItsChannel = (es : List Event) (d : UtpPacket) (c : Connection) → d.id < 2 ^ 16 → is_syn d.kind ≡ false → is_reset d.kind ≡ false
    → connection_of (table_of es) d ≡ Some c → IsOnChannel c d

-- What comes on either channel after a SYN that began a connection is of that connection.
abbrev pub BothSidesAreFound : Type 0
BothSidesAreFound = (es : List Event) (d e : UtpPacket) → begins (table_of es) d ≡ true → d.id < 2 ^ 16 → is_syn e.kind ≡ false
    → IsOnChannel (begun_by (table_of es).begun d) e → connection_of (after_packet (table_of es) d) e ≡ Some (begun_by (table_of es).begun d)

-- Only a SYN begins a connection.
abbrev pub OnlySynsBegin : Type 0
OnlySynsBegin = (t : Table) (d : UtpPacket) → is_syn d.kind ≡ false → after_packet t d ≡ t

-- A SYN that is sent again begins none.
abbrev pub SynAgainBeginsNone : Type 0
SynAgainBeginsNone = (t : Table) (d : UtpPacket) → begins (after_packet t d) d ≡ false

-- A SYN with the same ends, the same id and another number begins the next connection.
abbrev pub OtherSynBeginsAnother : Type 0
OtherSynBeginsAnother = (t : Table) (d e : UtpPacket) → begins t d ≡ true → is_syn e.kind ≡ true → e.source ≡ d.source → e.target ≡ d.target → e.id ≡ d.id
    → d.number ≢ e.number → t.begun + 1 < 2 ^ 64 - 1 → connection_of (after_packet t d) e ≡ Some (begun_by (t.begun + 1) e)

-- There are 65,536 connections at most.
abbrev pub ConnectionsAreBounded : Type 0
ConnectionsAreBounded = (es : List Event) → (table_of es).live ≤ 65536
