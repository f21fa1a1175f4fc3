-- What a packet of a connection is turned into.
use Rattle.std.specs.Prelude.{◌≡◌, ℕ, ◌^◌, ◌<◌, Bool, List, []}
use Rattle.bt_packet.specs.declared.utp.UtpKind.{UtpKind}
use Rattle.bt_packet.specs.declared.utp.UtpKind.TheVariants.{Data, Fin, State, Reset, Syn}
use Rattle.bt_packet.specs.Utp.{UtpPacket}
use Rattle.bt_order.specs.declared.link.Kind.{Kind}
use Rattle.bt_order.specs.declared.link.Kind.TheVariants as kind
use Rattle.bt_order.specs.declared.link.Came.{Came}
use Rattle.bt_order.specs.declared.link.Turned.{Turned}
use Rattle.bt_order.specs.declared.link.Link.{Link}
use Rattle.bt_order.specs.Links.{Turns}
use Rattle.bt_utp.specs.declared.connection.Connection.{Connection}
use Rattle.bt_utp.specs.declared.connection.Told.{Told}
use Rattle.bt_utp.specs.declared.entries.Entry.{Entry}
use Rattle.bt_utp.specs.Channels.{is_from_initiator}

-- a packet of a connection, and the segment that it was turned into: how many bytes more could be held, the segment, and its payload
pub record Taken : Type 0 where
  pub connection : Connection
  pub packet : UtpPacket
  pub room : ℕ
  pub turned : Turned
  pub bytes : List ℕ

abbrev pub link_kind : UtpKind → Kind
link_kind Data = kind.Data
link_kind Fin = kind.Fin
link_kind State = kind.State
link_kind Reset = kind.Reset
link_kind Syn = kind.Syn

-- The packet came, from the initiator or from the acceptor.
pub record IsCame (p : UtpPacket) (is_initiator : Bool) (came : Came) : Type 0 where
  pub initiator : came.is_initiator ≡ is_initiator
  pub kind : came.kind ≡ link_kind p.kind
  pub number : came.number ≡ p.number
  pub fits : p.number < 2 ^ 16
  pub acked : came.acked ≡ p.acked
  pub bytes : came.bytes.now ≡ p.payload
  pub size : came.size ≡ p.size

-- The link turned the packet into the segment.
pub record IsTurn (c : Connection) (x : Taken) (old new : Link) : Type 0 where
  pub connection : x.connection ≡ c
  pub came : Came
  pub is : IsCame x.packet (is_from_initiator c x.packet) came
  pub turns : Turns came x.room old [] new x.bytes x.turned

-- what was turned, if the packet is of a connection
abbrev pub taken_by : UtpPacket → ℕ → List ℕ → Told → Taken
taken_by d room bytes told = record { connection = told.connection; packet = d; room = room; turned = told.turned; bytes = bytes }

-- An entry's link turned the packet.
pub record TurnsEntry (d : UtpPacket) (room : ℕ) (bytes : List ℕ) (told : Told) (old new : Entry) : Type 0 where
  pub same : new.connection ≡ old.connection
  pub connection : told.connection ≡ old.connection
  pub initiator : told.is_initiator ≡ is_from_initiator old.connection d
  pub turn : IsTurn old.connection (taken_by d room bytes told) old.link new.link
