-- The stream of one direction's packets.
use Rattle.std.specs.Prelude.{◌≡◌, ℕ, zero, suc, ◌+◌, ◌<◌, ◌≤◌, ◌⊎◌, ◌==◌, ◌||◌, not, nat_lt, max, Bool, true, false, if◌then◌else◌}
use Rattle.std.specs.Prelude.{List, [], ◌∷◌, ◌++◌, length, drop, Option, Some, None, IsSome}
use Rattle.bt_tcp.specs.Segments.{Segment}

-- a packet of the type ST_DATA or ST_FIN: its index, whether it is an ST_FIN, its captured payload, and the payload's size on the wire
pub record Packet : Type 0 where
  pub index : ℕ
  pub is_fin : Bool
  pub bytes : List ℕ
  pub size : ℕ

-- the first captured packet with this index
abbrev pub packet_at : List Packet → ℕ → Option Packet
packet_at [] i = None
packet_at (p ∷ ps) i = if p.index == i then Some p else packet_at ps i

-- The capture has only the front of its payload.
abbrev pub is_cut : Packet → Bool
is_cut p = nat_lt (length p.bytes) p.size

-- Nothing follows an ST_FIN (BEP 29, eof_pkt), nor a payload that the capture cut.
abbrev pub is_last : Packet → Bool
is_last p = p.is_fin || is_cut p

abbrev pub with_packet : Option Packet → List ℕ → List ℕ
with_packet None rest = []
with_packet (Some p) rest = p.bytes ++ (if is_last p then [] else rest)

-- the payloads of the packets from an index on, at most n of them, up to the first that wasn't captured
abbrev pub payloads : (ℕ → Option Packet) → ℕ → ℕ → List ℕ
payloads at zero i = []
payloads at (suc n) i = with_packet (at i) (payloads at n (i + 1))

abbrev pub last_or : Option Packet → Option Packet → Option Packet
last_or None rest = None
last_or (Some p) rest = if is_last p then Some p else rest

-- the packet that ends them, if it is there
abbrev pub last_packet : (ℕ → Option Packet) → ℕ → ℕ → Option Packet
last_packet at zero i = None
last_packet at (suc n) i = last_or (at i) (last_packet at n (i + 1))

-- No index from here on was captured.
abbrev pub end_of : List Packet → ℕ
end_of [] = 0
end_of (p ∷ ps) = max (p.index + 1) (end_of ps)

-- the stream: the payloads from the first index on, joined, up to the first index without a packet, an ST_FIN, or a payload that the capture cut
abbrev pub utp_stream : List Packet → List ℕ
utp_stream ps = payloads (packet_at ps) (end_of ps) 65536

-- the packet that ends the stream, if it is there
abbrev pub utp_last : List Packet → Option Packet
utp_last ps = last_packet (packet_at ps) (end_of ps) 65536

abbrev pub is_whole_fin : Option Packet → Bool
is_whole_fin None = false
is_whole_fin (Some p) = not (is_cut p)

-- The stream ends by an ST_FIN whose payload, if any, was captured whole.
abbrev pub has_fin : List Packet → Bool
has_fin ps = is_whole_fin (utp_last ps)

abbrev pub is_cut_last : Option Packet → Bool
is_cut_last None = false
is_cut_last (Some p) = is_cut p

-- A packet is there, and the stream goes on after it.
abbrev pub IsGoing : Option Packet → Type 0
IsGoing None = ⊥
IsGoing (Some p) = is_last p ≡ false

-- The packet with this index is awaited: those before it are there, and it isn't.
pub record IsAwaited (ps : List Packet) (n : ℕ) : Type 0 where
  pub first : 65536 ≤ n
  pub there : (i : ℕ) → 65536 ≤ i → i < n → IsGoing (packet_at ps i)
  pub none : packet_at ps n ≡ None

-- A packet came after the awaited one, or the capture cut the payload that ends the stream.
abbrev pub HasGap : List Packet → Type 0
HasGap ps = ((n : ℕ) × IsAwaited ps n × ((i : ℕ) × (n < i) × IsSome (packet_at ps i))) ⊎ (is_cut_last (utp_last ps) ≡ true)

-- Each packet is turned into a segment with the bytes that come next once it is there, if any do. Those before it were taken already.
abbrev pub turned : ℕ → List Packet → List Packet → List Segment
turned base before [] = []
turned base before (p ∷ ps) = record {
  place = base + length (utp_stream before);
  bytes = drop (length (utp_stream before)) (utp_stream (before ++ p ∷ []));
} ∷ turned base (before ++ p ∷ []) ps
