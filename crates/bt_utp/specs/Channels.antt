-- The connections of uTP (BEP 29) and the channels that they use: a channel is a source, a target and a `connection_id`.
use Rattle.std.specs.Prelude.{ℕ, ◌+◌, ◌-◌, ◌%◌, ◌^◌, ◌==◌, ◌&&◌, ◌||◌, not, nat_lt, is_some, Bool, true, false}
use Rattle.std.specs.Prelude.{Option, Some, None, List, fold, if◌then◌else◌}
use Rattle.std.specs.Option.{option_or}
use Rattle.bt_packet.specs.declared.address.Address.{Address}
use Rattle.bt_packet.specs.declared.utp.UtpKind.{UtpKind}
use Rattle.bt_packet.specs.declared.utp.UtpKind.TheVariants.{Reset, Syn}
use Rattle.bt_packet.specs.Utp.{UtpPacket}
use Rattle.bt_utp.specs.declared.connection.Connection.{Connection}
use Rattle.bt_utp.specs.Flows.{same_address}

-- The connections: `at` finds one by its initiator, its acceptor and the id of its SYN. `live` is how many there are, `begun` how many began.
pub record Table : Type 0 where
  pub at : Address → Address → ℕ → Option Connection
  pub live : ℕ
  pub begun : ℕ

abbrev pub no_connections : Table
no_connections = record { at = λ a b id. None; live = 0; begun = 0 }

abbrev pub is_syn : UtpKind → Bool
is_syn Syn = true
is_syn kind = false

abbrev pub is_reset : UtpKind → Bool
is_reset Reset = true
is_reset kind = false

abbrev pub if_number : ℕ → Option Connection → Option Connection
if_number number None = None
if_number number (Some c) = if c.syn == number then Some c else None

-- the connection that a SYN began which is sent again: one with another number begins another connection
abbrev pub syn_again : Table → UtpPacket → Option Connection
syn_again t d = if_number d.number (t.at d.source d.target d.id)

-- There is room for 65,536 connections, and they are numbered by 64 bits. One with the same ends and the same id makes room for the next.
abbrev pub has_place : Table → UtpPacket → Bool
has_place t d = nat_lt t.begun (2 ^ 64 - 1) && (is_some (t.at d.source d.target d.id) || nat_lt t.live 65536)

-- BEP 29, "connection setup": an ST_SYN begins a connection.
abbrev pub begins : Table → UtpPacket → Bool
begins t d = is_syn d.kind && (not (same_address d.source d.target) && (not (is_some (syn_again t d)) && has_place t d))

-- the connection with this number that a SYN begins
abbrev pub begun_by : ℕ → UtpPacket → Connection
begun_by n d = record { number = n; initiator = d.source; acceptor = d.target; id = d.id; syn = d.number }

abbrev pub later : Option Connection → Option Connection → Option Connection
later None q = q
later (Some c) None = Some c
later (Some c) (Some e) = if nat_lt c.number e.number then Some e else Some c

-- The connection of a channel. BEP 29, "connection_id": the acceptor sends with the SYN's id, and the initiator with the next one. If two connections
-- have the channel, it is the later one's.
abbrev pub channel_of : Table → Address → Address → ℕ → Option Connection
channel_of t source target id = later (t.at source target ((id + 65535) % 65536)) (t.at target source id)

-- The connection of a packet that begins none. An ST_RESET may also have the id that its sender received.
abbrev pub found_by : UtpKind → Table → UtpPacket → Option Connection
found_by Syn t d = syn_again t d
found_by Reset t d = option_or (channel_of t d.source d.target d.id) (channel_of t d.target d.source d.id)
found_by kind t d = channel_of t d.source d.target d.id

abbrev pub found : Table → UtpPacket → Option Connection
found t d = found_by d.kind t d

-- the connection of a packet that comes next
abbrev pub connection_of : Table → UtpPacket → Option Connection
connection_of t d = if begins t d then Some (begun_by t.begun d) else found t d

-- The initiator sent the packet, or else the acceptor: the ends of a connection differ.
abbrev pub is_from_initiator : Connection → UtpPacket → Bool
is_from_initiator c d = same_address d.source c.initiator

abbrev pub is_key : Address → Address → ℕ → Address → Address → ℕ → Bool
is_key a b id x y i = same_address a x && (same_address b y && (id == i))

-- the table after a connection began
abbrev pub begin : Table → UtpPacket → Table
begin t d = record {
  at = λ a b id. if is_key d.source d.target d.id a b id then Some (begun_by t.begun d) else t.at a b id;
  live = if is_some (t.at d.source d.target d.id) then t.live else t.live + 1;
  begun = t.begun + 1;
}

-- the table after a packet
abbrev pub after_packet : Table → UtpPacket → Table
after_packet t d = if begins t d then begin t d else t

abbrev pub has_number : ℕ → Option Connection → Bool
has_number n None = false
has_number n (Some c) = c.number == n

-- There is this connection.
abbrev pub is_live : Table → Connection → Bool
is_live t c = has_number c.number (t.at c.initiator c.acceptor c.id)

abbrev pub forget : Table → Connection → Table
forget t c = record {
  at = λ a b id. if is_key c.initiator c.acceptor c.id a b id then None else t.at a b id;
  live = t.live - 1;
  begun = t.begun;
}

-- the table after a connection was forgotten, if there is one with its number
abbrev pub after_forget : Table → Connection → Table
after_forget t c = if is_live t c then forget t c else t

-- a packet came, or a connection was forgotten
pub data Event : Type 0 where
  came : UtpPacket → Event
  forgot : Connection → Event

abbrev pub after_event : Table → Event → Table
after_event t (came d) = after_packet t d
after_event t (forgot c) = after_forget t c

-- the table of all that happened, in order
abbrev pub table_of : List Event → Table
table_of es = fold after_event no_connections es
