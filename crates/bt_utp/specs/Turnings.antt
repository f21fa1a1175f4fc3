-- What the packets of connections are turned into.
use Rattle.std.specs.Prelude.{◌≡◌, ℕ, ◌+◌, ◌%◌, ◌^◌, ◌<◌, ◌≤◌, ◌==◌, false, List, [], ◌∷◌, ◌++◌, Option, Some, None}
use Rattle.std.specs.List.{filter}
use Rattle.std.specs.Option.{option_map}
use Rattle.bt_packet.specs.declared.address.Address.{Address}
use Rattle.bt_packet.specs.Utp.{UtpPacket}
use Rattle.bt_order.specs.declared.link.Link.{Link}
use Rattle.bt_order.specs.Links.{Begins, StaysLink}
use Rattle.bt_utp.specs.declared.connection.Connection.{Connection}
use Rattle.bt_utp.specs.declared.entries.Entry.{Entry}
use Rattle.bt_utp.specs.declared.connection.Told.{Told}
use Rattle.bt_utp.specs.declared.links.Links.{Links}
use Rattle.bt_utp.specs.Entries.{entry_at, live_in}
use Rattle.bt_utp.specs.Taken.{Taken, IsTurn, taken_by}
use Rattle.bt_utp.specs.Channels.{Table, connection_of, is_from_initiator, after_packet}

-- The link turned these packets, in order.
abbrev pub AreTurned : Connection → Link → List Taken → Link → Type 0
AreTurned c old [] new = StaysLink old [] new []
AreTurned c old (x ∷ xs) new = (m m' : Link) × StaysLink old [] m [] × IsTurn c x m m' × AreTurned c m' xs new

-- Nothing but the SYN's number is known.
pub record IsNewLink (syn : ℕ) (link : Link) : Type 0 where
  pub initiator : Begins ((syn + 1) % 2 ^ 16) (syn + 1) link.initiator
  pub acceptor : Begins 0 1 link.acceptor
  pub has_syn : link.syn ≡ syn
  pub known : link.is_known ≡ false
  pub sent : link.has_sent ≡ false
  pub answered : link.has_answered ≡ false
  pub reset : link.is_reset ≡ false

-- A connection's packets were turned, in order, from its SYN on.
abbrev pub IsRun : Connection → List Taken → Link → Type 0
IsRun c xs last = (first : Link) × IsNewLink c.syn first × AreTurned c first xs last

-- the packets of a connection
abbrev pub packets_of : ℕ → List Taken → List Taken
packets_of n xs = filter (λ x. x.connection.number == n) xs

-- what is kept of the connections
abbrev pub view : Links → Table
view s = record { at = λ a b id. option_map (λ e. e.connection) (entry_at s.entries a b id); live = live_in s.entries; begun = s.begun }

-- Each connection stands where its SYN says.
pub record IsKeyed (t : Table) (a b : Address) (id : ℕ) (c : Connection) : Type 0 where
  pub initiator : c.initiator ≡ a
  pub acceptor : c.acceptor ≡ b
  pub has_id : c.id ≡ id
  pub begun : c.number < t.begun

-- These are the connections, and these packets of theirs were turned.
pub record AreLinked (t : Table) (xs : List Taken) (s : Links) : Type 0 where
  pub table : view s ≡ t
  pub keyed : (a b : Address) (id : ℕ) (c : Connection) → t.at a b id ≡ Some c → IsKeyed t a b id c
  pub apart : (a b : Address) (id : ℕ) (c : Connection) (a' b' : Address) (id' : ℕ) (c' : Connection)
      → t.at a b id ≡ Some c → t.at a' b' id' ≡ Some c' → c.number ≡ c'.number → c ≡ c'
  pub live : (a b : Address) (id : ℕ) (e : Entry) → entry_at s.entries a b id ≡ Some e → IsRun e.connection (packets_of e.connection.number xs) e.link
  pub all : (n : ℕ) → n < t.begun → (c : Connection) × (c.number ≡ n) × ((last : Link) × IsRun c (packets_of n xs) last)
  pub none : (n : ℕ) → t.begun ≤ n → packets_of n xs ≡ []

-- The packet is of this connection, and was turned.
pub record IsTold (t : Table) (xs : List Taken) (d : UtpPacket) (room : ℕ) (told : Told) (s : Links) : Type 0 where
  pub connection : connection_of t d ≡ Some told.connection
  pub initiator : told.is_initiator ≡ is_from_initiator told.connection d
  pub linked : AreLinked (after_packet t d) (xs ++ taken_by d room s.bytes.items told ∷ []) s

-- The packet is of no connection.
pub record IsOfNone (t : Table) (xs : List Taken) (d : UtpPacket) (s : Links) : Type 0 where
  pub none : connection_of t d ≡ None
  pub linked : AreLinked (after_packet t d) xs s

abbrev pub IsToldOr : Table → List Taken → UtpPacket → ℕ → Option Told → Links → Type 0
IsToldOr t xs d room None s = IsOfNone t xs d s
IsToldOr t xs d room (Some told) s = IsTold t xs d room told s
