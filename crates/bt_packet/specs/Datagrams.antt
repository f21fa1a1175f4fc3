-- Which packet of uTP a frame carries: by what stands after what. `Utp.utp_of` says the same as a function.
use Rattle.std.specs.Prelude.{◌≡◌, ℕ, ◌-◌, ◌<◌, ◌==◌, min, true, false, List, [], ◌∷◌, ◌++◌, length, Option, Some, None, ⊤, ◌↔◌}
use Rattle.bt_packet.specs.Bytes.{word}
use Rattle.bt_packet.specs.Ip.{Contents}
use Rattle.bt_packet.specs.Tcp.{port_of}
use Rattle.bt_packet.specs.Segments.{IsPayload, IsCarriedBy}
use Rattle.bt_packet.specs.Utp.{UtpPacket, UtpExtension, kind_of, may_carry, close_reason, packet_in, utp_of}
use Rattle.bt_packet.specs.declared.address.Address.{Address}
use Rattle.bt_packet.specs.declared.utp.UtpKind.{UtpKind}

-- ---- RFC 768

pub record Udp : Type 0 where
  pub s0 : ℕ
  pub s1 : ℕ
  pub d0 : ℕ
  pub d1 : ℕ
  pub l0 : ℕ
  pub l1 : ℕ
  pub k0 : ℕ
  pub k1 : ℕ

-- a header, and what follows it
abbrev pub udp_bytes : Udp → List ℕ → List ℕ
udp_bytes u rest = u.s0 ∷ u.s1 ∷ u.d0 ∷ u.d1 ∷ u.l0 ∷ u.l1 ∷ u.k0 ∷ u.k1 ∷ rest

-- ---- BEP 29, "header format"

-- type and version, `connection_id`, `timestamp_microseconds`, `timestamp_difference_microseconds`, `wnd_size`, `seq_nr`, `ack_nr`
pub record Header : Type 0 where
  pub first : ℕ
  pub i0 : ℕ
  pub i1 : ℕ
  pub t0 : ℕ
  pub t1 : ℕ
  pub t2 : ℕ
  pub t3 : ℕ
  pub d0 : ℕ
  pub d1 : ℕ
  pub d2 : ℕ
  pub d3 : ℕ
  pub w0 : ℕ
  pub w1 : ℕ
  pub w2 : ℕ
  pub w3 : ℕ
  pub n0 : ℕ
  pub n1 : ℕ
  pub a0 : ℕ
  pub a1 : ℕ

-- a header with the number of the first extension, and what follows it
abbrev pub header_bytes : Header → ℕ → List ℕ → List ℕ
header_bytes h extension rest =
    h.first ∷ extension ∷ h.i0 ∷ h.i1 ∷ h.t0 ∷ h.t1 ∷ h.t2 ∷ h.t3 ∷ h.d0 ∷ h.d1 ∷ h.d2 ∷ h.d3 ∷ h.w0 ∷ h.w1 ∷ h.w2 ∷ h.w3
    ∷ h.n0 ∷ h.n1 ∷ h.a0 ∷ h.a1 ∷ rest

-- the number of the first extension, if `last` stands after them
abbrev pub first_of : List UtpExtension → ℕ → ℕ
first_of [] last = last
first_of (e ∷ es) last = e.kind

-- extensions in a row, and what follows them: each has the number of the next one, its length, and as many bytes
abbrev pub chained : List UtpExtension → ℕ → List ℕ → List ℕ
chained [] last rest = rest
chained (e ∷ es) last rest = first_of es last ∷ length e.content ∷ (e.content ++ chained es last rest)

abbrev pub AreExtensions : List UtpExtension → Type 0
AreExtensions [] = ⊤
AreExtensions (e ∷ es) = ((e.kind == 0) ≡ false) × AreExtensions es

-- the packet of these fields
abbrev pub said : Address → Address → Header → UtpKind → List UtpExtension → List ℕ → ℕ → UtpPacket
said source target h kind extensions payload size = record {
  source = source;
  target = target;
  kind = kind;
  id = word h.i0 h.i1;
  number = word h.n0 h.n1;
  acked = word h.a0 h.a1;
  reason = close_reason extensions;
  payload = payload;
  size = size;
}

-- ---- packets

-- a header, extensions that 0 ends, and the payload, in data of this size on the wire
pub record IsUtpPacket (source target : Address) (size : ℕ) (data' : List ℕ) (p : UtpPacket) : Type 0 where
  pub h : Header
  pub extensions : List UtpExtension
  pub is : data' ≡ header_bytes h (first_of extensions 0) (chained extensions 0 p.payload)
  pub are_extensions : AreExtensions extensions
  pub kind : kind_of h.first ≡ Some p.kind
  pub left : p.size ≡ size - 20 - length (chained extensions 0 [])
  pub may_carry : may_carry p.kind p.size ≡ true
  pub says : p ≡ said source target h p.kind extensions p.payload p.size

-- how long a datagram's data are: its header says a length with its own 8 bytes, and the packet of IP may end before it
abbrev pub data_size : Udp → ℕ → ℕ
data_size u size = min (word u.l0 u.l1) size - 8

-- the packet in a datagram
pub record IsUtpIn (c : Contents) (p : UtpPacket) : Type 0 where
  pub u : Udp
  pub rest : List ℕ
  pub data' : List ℕ
  pub protocol : c.protocol ≡ 17
  pub is : c.payload ≡ udp_bytes u rest
  pub has_data : IsPayload (data_size u c.size) rest data'
  pub has_packet : IsUtpPacket (port_of c.source u.s0 u.s1) (port_of c.target u.d0 u.d1) (data_size u c.size) data' p

-- the packet of uTP that a frame carries
pub record IsUtpOf (link : ℕ) (bytes : List ℕ) (wire : ℕ) (p : UtpPacket) : Type 0 where
  pub contents : Contents
  pub carried_by : IsCarriedBy link bytes wire contents
  pub has_packet : IsUtpIn contents p

-- what a frame carries is told: its packet of uTP, or that it carries none
abbrev pub IsUtpTold : ℕ → List ℕ → ℕ → Option UtpPacket → Type 0
IsUtpTold link bytes wire (Some p) = IsUtpOf link bytes wire p
IsUtpTold link bytes wire None = (p : UtpPacket) → ¬ (IsUtpOf link bytes wire p)

-- ---- the laws

-- The function gives the packet of uTP that a frame carries, and nothing if it carries none. So a frame carries one at most.
abbrev pub UtpIsRead : Type 0
UtpIsRead = (link : ℕ) (bytes : List ℕ) (wire : ℕ) (p : UtpPacket) → IsUtpOf link bytes wire p ↔ (utp_of link bytes wire ≡ Some p)

-- A packet of version 0 may look like one with extensions. It is none if the last of them says more bytes than there are.
abbrev pub ChainHasToFit : Type 0
ChainHasToFit =
    (source target : Address) (size : ℕ) (h : Header) (extensions : List UtpExtension) (kind next says : ℕ) (rest : List ℕ)
    → AreExtensions extensions → (kind == 0) ≡ false → length rest < says
    → packet_in source target size (header_bytes h (first_of extensions kind) (chained extensions kind (next ∷ says ∷ rest))) ≡ None
