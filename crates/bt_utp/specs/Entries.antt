-- What is kept of each connection.
use Rattle.std.specs.Prelude.{◌≡◌, ℕ, ◌-◌, List, [], Option, Some, None, is_some, Bool, if◌then◌else◌}
use Rattle.std.specs.List.{sum_by}
use Rattle.std.specs.Ordering.{ordering_then, nat_cmp}
use Rattle.std.specs.declared.cmp.Ordering.{Ordering}
use Rattle.std.specs.BTreeMap.{get, btree_map_len, values}
use Rattle.bt_packet.specs.declared.address.Address.{Address}
use Rattle.bt_packet.specs.contracts.address.AddressOrd.TheImpl as address_ord
use Rattle.bt_packet.specs.Utp.{UtpPacket}
use Rattle.bt_order.specs.Links.{counted, StaysLink}
use Rattle.bt_utp.specs.declared.connection.Connection.{Connection}
use Rattle.bt_utp.specs.declared.connection.Told.{Told}
use Rattle.bt_utp.specs.declared.entries.Entry.{Entry}
use Rattle.bt_utp.specs.declared.entries.Entries.{Entries}
use Rattle.bt_utp.specs.Channels.{is_key}
use Rattle.bt_utp.specs.Taken.{TurnsEntry}

-- how keys are ordered
abbrev pub key_order : Address × Address × ℕ → Address × Address × ℕ → Ordering
key_order x y = ordering_then (ordering_then ((address_ord.ghosts).cmp x.0 y.0) ((address_ord.ghosts).cmp x.1 y.1)) (nat_cmp x.2 y.2)

-- the connection of an initiator, an acceptor and the id of the SYN
abbrev pub entry_at : Entries → Address → Address → ℕ → Option Entry
entry_at s a b id = get key_order s.map (a, b, id)

abbrev pub has_entry : Entries → Connection → Bool
has_entry s c = is_some (entry_at s c.initiator c.acceptor c.id)

abbrev pub live_in : Entries → ℕ
live_in s = btree_map_len s.map

-- what is held, of all connections together
abbrev pub held_in : Entries → ℕ
held_in s = sum_by (λ e. counted e.link) (values s.map)

-- what more may be held: 32 MiB at most
abbrev pub room_in : Entries → ℕ
room_in s = 33554432 - held_in s

-- An entry was put, and the others are the same.
abbrev pub Puts : Address → Address → ℕ → Entry → Entries → Entries → Type 0
Puts a b id e old new = (x y : Address) (i : ℕ) → entry_at new x y i ≡ (if is_key a b id x y i then Some e else entry_at old x y i)

-- An entry went, and the others are the same.
abbrev pub IsGone : Address → Address → ℕ → Entries → Entries → Type 0
IsGone a b id old new = (x y : Address) (i : ℕ) → entry_at new x y i ≡ (if is_key a b id x y i then None else entry_at old x y i)

pub record IsSameEntries (old new : Entries) : Type 0 where
  pub entries : (x y : Address) (i : ℕ) → entry_at new x y i ≡ entry_at old x y i
  pub live : live_in new ≡ live_in old

-- A connection's entry turned a packet.
pub record HasTurned (c : Connection) (d : UtpPacket) (bytes : List ℕ) (told : Told) (old new : Entries) : Type 0 where
  pub entry : Entry
  pub entry' : Entry
  pub there : entry_at old c.initiator c.acceptor c.id ≡ Some entry
  pub turns : TurnsEntry d (room_in old) bytes told entry entry'
  pub puts : Puts c.initiator c.acceptor c.id entry' old new
  pub live : live_in new ≡ live_in old

-- A connection's entry is as before.
pub record HasStayed (c : Connection) (old new : Entries) : Type 0 where
  pub entry : Entry
  pub entry' : Entry
  pub there : entry_at old c.initiator c.acceptor c.id ≡ Some entry
  pub same : entry'.connection ≡ entry.connection
  pub stays : StaysLink entry.link [] entry'.link []
  pub puts : Puts c.initiator c.acceptor c.id entry' old new
  pub live : live_in new ≡ live_in old
