-- Packets that are held past a gap.
use Rattle.std.specs.Prelude.{◌≡◌, ℕ, ◌+◌, ◌<◌, ◌==◌, ◌⊎◌, Option, Some, None, if◌then◌else◌}
use Rattle.std.specs.Option.{option_map}
use Rattle.std.specs.Ordering.{nat_cmp}
use Rattle.std.specs.BTreeMap.{get, btree_map_len}
use Rattle.bt_order.specs.declared.held.Part.{Part}
use Rattle.bt_order.specs.declared.held.Held.{Held}
use Rattle.bt_order.specs.declared.held.Payload.{Payload}
use Rattle.bt_order.specs.Streams.{Packet}

abbrev pub packet_of : ℕ → Part → Packet
packet_of i part = record { index = i; is_fin = part.is_fin; bytes = part.bytes.items; size = part.size }

abbrev pub packet_with : ℕ → Payload → Packet
packet_with i payload = record { index = i; is_fin = payload.is_fin; bytes = payload.bytes.now; size = payload.size }

-- the packet that is held with an index
abbrev pub held_at : Held → ℕ → Option Packet
held_at h i = option_map (packet_of i) (get nat_cmp h.parts i)

abbrev pub count : Held → ℕ
count h = btree_map_len h.parts

abbrev pub or_packet : Option Packet → Option Packet → Option Packet
or_packet (Some p) q = Some p
or_packet None q = q

-- the packet, at its index
abbrev pub only : Packet → ℕ → Option Packet
only p i = if p.index == i then Some p else None

-- A packet is held, unless one with its index was already.
abbrev pub Holds : Packet → (ℕ → Option Packet) → (ℕ → Option Packet) → Type 0
Holds p old new = (i : ℕ) → new i ≡ or_packet (old i) (only p i)

-- There is no room for a packet: its payload and 64 bytes are more than the caller grants, or make more than 1 MiB with what is held.
abbrev pub HasNoRoom : ℕ → ℕ → ℕ → Type 0
HasNoRoom counted room size = (room < size + 64) ⊎ (1048576 < counted + (size + 64))

abbrev pub SameHeld : Held → Held → Type 0
SameHeld old new = ((i : ℕ) → held_at new i ≡ held_at old i) × (new.counted ≡ old.counted)
