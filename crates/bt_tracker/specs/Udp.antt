-- Trackers over UDP (BEP 15). Numbers have the high byte first.
use Rattle.std.specs.Prelude.{◌≡◌, ℕ, ◌==◌, ◌&&◌, ◌||◌, nat_le, Bool, List, ◌++◌, length, take, drop}
use Rattle.std.specs.Int.{w16, w32, w64, to_be_bytes, from_be_bytes}
use Rattle.bt_tracker.specs.declared.announce.Announce.{Announce}
use Rattle.bt_tracker.specs.declared.announce.Event.{Event}
use Rattle.bt_tracker.specs.declared.announce.Event.TheVariants as event
use Rattle.bt_tracker.specs.declared.udp.UdpAnswer.{UdpAnswer}
use Rattle.bt_tracker.specs.declared.udp.UdpAnswer.TheVariants.{Connected, Announced, Error}

-- connect request: protocol id, action, transaction id
abbrev pub connect_of : List ℕ → List ℕ
connect_of transaction = to_be_bytes w64 0x41727101980 ++ (to_be_bytes w32 0 ++ transaction)

abbrev pub event_number : Event → ℕ
event_number event.None = 0
event_number event.Completed = 1
event_number event.Started = 2
event_number event.Stopped = 3

-- announce request: connection id, action, transaction id, info hash, peer id,
abbrev pub announce_front : (connection transaction : List ℕ) → Announce → List ℕ
announce_front connection transaction a = connection ++ (to_be_bytes w32 1 ++ (transaction ++ (a.info_hash ++ a.peer_id)))

-- downloaded, left, uploaded,
abbrev pub announce_sizes : (left : ℕ) → List ℕ
announce_sizes left = to_be_bytes w64 0 ++ (to_be_bytes w64 left ++ to_be_bytes w64 0)

-- event, IP address, which is 0 for the sender's, key, peers wanted, port
abbrev pub announce_back : (key : List ℕ) → Announce → List ℕ
announce_back key a = to_be_bytes w32 (event_number a.event) ++ (to_be_bytes w32 0 ++ (key ++ (to_be_bytes w32 a.wanted ++ to_be_bytes w16 a.port)))

abbrev pub announce_of : (connection transaction key : List ℕ) → Announce → List ℕ
announce_of connection transaction key a = announce_front connection transaction a ++ (announce_sizes a.left ++ announce_back key a)

-- so many bytes at an offset
abbrev pub field : (at size : ℕ) → List ℕ → List ℕ
field at size bytes = take size (drop at bytes)

abbrev pub number_at : (at : ℕ) → List ℕ → ℕ
number_at at bytes = from_be_bytes w32 (field at 4 bytes)

-- The fields of the three responses: action at offset 0, transaction id at 4, and then
abbrev pub IsAnswer : List ℕ → UdpAnswer → List ℕ → Type 0
-- connect response: connection id at 8
IsAnswer transaction (Connected connection) bytes =
    (number_at 0 bytes ≡ 0) × (transaction ≡ field 4 4 bytes) × (connection ≡ field 8 8 bytes)
-- IPv4 or IPv6 announce response: interval at 8, leechers at 12, seeders at 16, and addresses from 20 on
IsAnswer transaction (Announced interval leechers seeders peers) bytes =
    (number_at 0 bytes ≡ 1) × (transaction ≡ field 4 4 bytes) × (interval ≡ number_at 8 bytes) × (leechers ≡ number_at 12 bytes)
    × (seeders ≡ number_at 16 bytes) × (peers.now ≡ drop 20 bytes)
-- error response: message from 8 on
IsAnswer transaction (Error text) bytes = (number_at 0 bytes ≡ 3) × (transaction ≡ field 4 4 bytes) × (text.now ≡ drop 8 bytes)

-- an action, and as many bytes as its response has at least
abbrev pub is_of : (action least : ℕ) → List ℕ → Bool
is_of action least bytes = nat_le least (length bytes) && (number_at 0 bytes == action)

abbrev pub has_form : List ℕ → Bool
has_form bytes = is_of 0 16 bytes || (is_of 1 20 bytes || is_of 3 8 bytes)
