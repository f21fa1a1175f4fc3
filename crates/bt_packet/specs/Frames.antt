-- Frames as their standards write them: by what stands after what.
use Rattle.std.specs.Prelude.{◌≡◌, ℕ, ◌+◌, ◌*◌, ◌/◌, ◌%◌, ◌==◌, true, false, List, [], ◌∷◌, ◌++◌, length, Some, ⊤}
use Rattle.bt_packet.specs.Bytes.{word, long_word}
use Rattle.bt_packet.specs.Links.{is_tag, is_bottom, is_gre, gre_fields}
use Rattle.bt_packet.specs.Ip.{is_fragment, is_extension, content_size, is_whole}
use Rattle.bt_packet.specs.Tcp.{TcpSegment, port_of, acked_of, flags_of, has_bit, segment_of}
use Rattle.bt_packet.specs.declared.address.Host.{Host}
use Rattle.bt_packet.specs.declared.address.Host.TheVariants.{V4, V6}

-- ---- IEEE 802.1Q

-- a tag: two bytes of its type, and two of what it says
pub record Tag : Type 0 where
  pub t0 : ℕ
  pub t1 : ℕ
  pub c0 : ℕ
  pub c1 : ℕ

-- tags in a row, and what follows them
abbrev pub tagged : List Tag → List ℕ → List ℕ
tagged [] rest = rest
tagged (t ∷ tags) rest = t.t0 ∷ t.t1 ∷ t.c0 ∷ t.c1 ∷ tagged tags rest

abbrev pub AreTags : List Tag → Type 0
AreTags [] = ⊤
AreTags (t ∷ tags) = (is_tag (word t.t0 t.t1) ≡ true) × AreTags tags

-- ---- RFC 3032 2.1

-- an entry of a label stack: 20 bits of a label, 3 of its class, the bit S, and a time to live
pub record Label : Type 0 where
  pub a : ℕ
  pub b : ℕ
  pub bits : ℕ
  pub time_to_live : ℕ

-- entries in a row, and what follows them
abbrev pub stacked : List Label → List ℕ → List ℕ
stacked [] rest = rest
stacked (l ∷ ls) rest = l.a ∷ l.b ∷ l.bits ∷ l.time_to_live ∷ stacked ls rest

-- They stand above another one: none has S.
abbrev pub AreAbove : List Label → Type 0
AreAbove [] = ⊤
AreAbove (l ∷ ls) = (is_bottom l.bits ≡ false) × AreAbove ls

-- ---- RFC 791 3.1

pub record Ipv4 : Type 0 where
  pub first : ℕ
  pub service : ℕ
  pub t0 : ℕ
  pub t1 : ℕ
  pub i0 : ℕ
  pub i1 : ℕ
  pub f0 : ℕ
  pub f1 : ℕ
  pub time_to_live : ℕ
  pub protocol : ℕ
  pub k0 : ℕ
  pub k1 : ℕ
  pub s0 : ℕ
  pub s1 : ℕ
  pub s2 : ℕ
  pub s3 : ℕ
  pub d0 : ℕ
  pub d1 : ℕ
  pub d2 : ℕ
  pub d3 : ℕ
  pub options : List ℕ

-- a header, and what follows it
abbrev pub ipv4_bytes : Ipv4 → List ℕ → List ℕ
ipv4_bytes h rest =
    h.first ∷ h.service ∷ h.t0 ∷ h.t1 ∷ h.i0 ∷ h.i1 ∷ h.f0 ∷ h.f1 ∷ h.time_to_live ∷ h.protocol ∷ h.k0 ∷ h.k1
    ∷ h.s0 ∷ h.s1 ∷ h.s2 ∷ h.s3 ∷ h.d0 ∷ h.d1 ∷ h.d2 ∷ h.d3 ∷ (h.options ++ rest)

-- It says that it carries `size` bytes.
pub record IsIpv4 (h : Ipv4) (size : ℕ) : Type 0 where
  pub version : h.first / 16 ≡ 4
  pub header_length : 4 * (h.first % 16) ≡ 20 + length h.options
  pub total_length : word h.t0 h.t1 ≡ 20 + length h.options + size
  pub whole : is_fragment (word h.f0 h.f1) ≡ false

-- ---- RFC 8200 3, 4

pub record Ipv6 : Type 0 where
  pub first : ℕ
  pub class : ℕ
  pub f0 : ℕ
  pub f1 : ℕ
  pub l0 : ℕ
  pub l1 : ℕ
  pub limit : ℕ
  pub source : List ℕ
  pub target : List ℕ

-- an extension header of this type: its length, and what it says after the type of the next one and the length
pub record Extension : Type 0 where
  pub kind : ℕ
  pub words : ℕ
  pub content : List ℕ

-- the type of the first header, if the last one is `last`
abbrev pub first_of : List Extension → ℕ → ℕ
first_of [] last = last
first_of (e ∷ es) last = e.kind

abbrev pub extended : List Extension → ℕ → List ℕ → List ℕ
extended [] last rest = rest
extended (e ∷ es) last rest = first_of es last ∷ e.words ∷ (e.content ++ extended es last rest)

abbrev pub AreExtensions : List Extension → Type 0
AreExtensions [] = ⊤
AreExtensions (e ∷ es) =
    (is_extension e.kind ≡ true) × (length e.content ≡ content_size e.kind e.words) × (is_whole e.kind e.content ≡ true) × AreExtensions es

abbrev pub ipv6_bytes : Ipv6 → ℕ → List ℕ → List ℕ
ipv6_bytes h next rest = h.first ∷ h.class ∷ h.f0 ∷ h.f1 ∷ h.l0 ∷ h.l1 ∷ next ∷ h.limit ∷ (h.source ++ (h.target ++ rest))

-- It says that it carries `size` bytes. (A length of 0 isn't said.)
pub record IsIpv6 (h : Ipv6) (size : ℕ) : Type 0 where
  pub version : h.first / 16 ≡ 6
  pub payload_length : word h.l0 h.l1 ≡ size
  pub said : (size == 0) ≡ false
  pub from : length h.source ≡ 16
  pub to : length h.target ≡ 16

-- ---- RFC 9293 3.1

pub record Tcp : Type 0 where
  pub s0 : ℕ
  pub s1 : ℕ
  pub d0 : ℕ
  pub d1 : ℕ
  pub n0 : ℕ
  pub n1 : ℕ
  pub n2 : ℕ
  pub n3 : ℕ
  pub a0 : ℕ
  pub a1 : ℕ
  pub a2 : ℕ
  pub a3 : ℕ
  pub offset : ℕ
  pub bits : ℕ
  pub w0 : ℕ
  pub w1 : ℕ
  pub k0 : ℕ
  pub k1 : ℕ
  pub u0 : ℕ
  pub u1 : ℕ
  pub options : List ℕ

abbrev pub tcp_bytes : Tcp → List ℕ → List ℕ
tcp_bytes t rest =
    t.s0 ∷ t.s1 ∷ t.d0 ∷ t.d1 ∷ t.n0 ∷ t.n1 ∷ t.n2 ∷ t.n3 ∷ t.a0 ∷ t.a1 ∷ t.a2 ∷ t.a3 ∷ t.offset ∷ t.bits ∷ t.w0 ∷ t.w1 ∷ t.k0 ∷ t.k1 ∷ t.u0 ∷ t.u1
    ∷ (t.options ++ rest)

abbrev pub IsTcp : Tcp → Type 0
IsTcp t = 4 * (t.offset / 16) ≡ 20 + length t.options

-- the segment of these fields and this data
abbrev pub said : Host → Host → Tcp → List ℕ → ℕ → TcpSegment
said source target t payload size = record {
  source = port_of source t.s0 t.s1;
  target = port_of target t.d0 t.d1;
  sequence = long_word t.n0 t.n1 t.n2 t.n3;
  acked = acked_of (has_bit t.bits 16) (long_word t.a0 t.a1 t.a2 t.a3);
  flags = flags_of t.bits;
  payload = payload;
  size = size;
}

-- ---- the laws

-- addresses, tags, a type, and a packet of IPv4: a header, a segment, and padding
abbrev pub ipv4_frame : List ℕ → List Tag → Ipv4 → Tcp → List ℕ → List ℕ
ipv4_frame addresses tags h t rest = addresses ++ tagged tags (0x08 ∷ 0x00 ∷ ipv4_bytes h (tcp_bytes t rest))

abbrev pub ipv4_source : Ipv4 → Host
ipv4_source h = V4 (h.s0 ∷ h.s1 ∷ h.s2 ∷ h.s3 ∷ [])

abbrev pub ipv4_target : Ipv4 → Host
ipv4_target h = V4 (h.d0 ∷ h.d1 ∷ h.d2 ∷ h.d3 ∷ [])

abbrev pub Ipv4IsRead : Type 0
Ipv4IsRead =
    (addresses : List ℕ) (tags : List Tag) (h : Ipv4) (t : Tcp) (payload padding : List ℕ) (wire : ℕ)
    → length addresses ≡ 12 → AreTags tags → IsIpv4 h (length (tcp_bytes t payload)) → h.protocol ≡ 6 → IsTcp t
    → segment_of 1 (ipv4_frame addresses tags h t (payload ++ padding)) wire ≡ Some (said (ipv4_source h) (ipv4_target h) t payload (length payload))

-- a frame that was cut in its data is read too: `lost` wasn't captured
abbrev pub CutIsRead : Type 0
CutIsRead =
    (addresses : List ℕ) (tags : List Tag) (h : Ipv4) (t : Tcp) (captured lost : List ℕ) (wire : ℕ)
    → length addresses ≡ 12 → AreTags tags → IsIpv4 h (length (tcp_bytes t (captured ++ lost))) → h.protocol ≡ 6 → IsTcp t
    → segment_of 1 (ipv4_frame addresses tags h t captured) wire ≡ Some (said (ipv4_source h) (ipv4_target h) t captured (length (captured ++ lost)))

-- addresses, tags, a type, and a packet of IPv6: a header, extension headers, a segment, and padding
abbrev pub ipv6_frame : List ℕ → List Tag → Ipv6 → List Extension → Tcp → List ℕ → List ℕ
ipv6_frame addresses tags h es t rest = addresses ++ tagged tags (0x86 ∷ 0xdd ∷ ipv6_bytes h (first_of es 6) (extended es 6 (tcp_bytes t rest)))

abbrev pub Ipv6IsRead : Type 0
Ipv6IsRead =
    (addresses : List ℕ) (tags : List Tag) (h : Ipv6) (es : List Extension) (t : Tcp) (payload padding : List ℕ) (wire : ℕ)
    → length addresses ≡ 12 → AreTags tags → IsIpv6 h (length (extended es 6 (tcp_bytes t payload))) → AreExtensions es → IsTcp t
    → segment_of 1 (ipv6_frame addresses tags h es t (payload ++ padding)) wire ≡ Some (said (V6 h.source) (V6 h.target) t payload (length payload))

-- Addresses, tags, a type of MPLS, a label stack, and a packet of IPv4: it is read as its segment.
abbrev pub MplsIsRead : Type 0
MplsIsRead =
    (addresses : List ℕ) (tags : List Tag) (above : List Label) (last : Label) (h : Ipv4) (t : Tcp) (payload padding : List ℕ) (wire : ℕ)
    → length addresses ≡ 12 → AreTags tags → AreAbove above → is_bottom last.bits ≡ true → IsIpv4 h (length (tcp_bytes t payload)) → h.protocol ≡ 6 → IsTcp t
    → segment_of 1 (addresses ++ tagged tags (0x88 ∷ 0x47 ∷ stacked above (stacked (last ∷ []) (ipv4_bytes h (tcp_bytes t (payload ++ padding)))))) wire
    ≡ Some (said (ipv4_source h) (ipv4_target h) t payload (length payload))

-- Addresses, tags, a type of PPP over Ethernet, a session and a length, the protocol 0x0021, and a packet of IPv4 (RFC 2516 4, RFC 1332 2).
abbrev pub PppoeIsRead : Type 0
PppoeIsRead =
    (addresses : List ℕ) (tags : List Tag) (s0 s1 l0 l1 : ℕ) (h : Ipv4) (t : Tcp) (payload padding : List ℕ) (wire : ℕ)
    → length addresses ≡ 12 → AreTags tags → IsIpv4 h (length (tcp_bytes t payload)) → h.protocol ≡ 6 → IsTcp t
    → segment_of 1 (addresses ++ tagged tags (0x88 ∷ 0x64 ∷ 0x11 ∷ 0x00 ∷ s0 ∷ s1 ∷ l0 ∷ l1 ∷ 0x00 ∷ 0x21 ∷ ipv4_bytes h (tcp_bytes t (payload ++ padding))))
    wire ≡ Some (said (ipv4_source h) (ipv4_target h) t payload (length payload))

-- a header of GRE with the type of IPv4, and what follows it (RFC 2784 2.1)
abbrev pub gre_bytes : ℕ → ℕ → List ℕ → List ℕ → List ℕ
gre_bytes first second fields rest = first ∷ second ∷ 0x08 ∷ 0x00 ∷ (fields ++ rest)

-- A packet of IPv4 that carries a header of GRE and another packet of IPv4: that one's segment is read.
abbrev pub GreIsRead : Type 0
GreIsRead =
    (addresses : List ℕ) (tags : List Tag) (o h : Ipv4) (first second : ℕ) (fields : List ℕ) (t : Tcp) (payload padding : List ℕ) (wire : ℕ)
    → length addresses ≡ 12 → AreTags tags → IsIpv4 o (length (gre_bytes first second fields (ipv4_bytes h (tcp_bytes t payload)))) → o.protocol ≡ 47
    → is_gre first second ≡ true → length fields ≡ gre_fields first → IsIpv4 h (length (tcp_bytes t payload)) → h.protocol ≡ 6 → IsTcp t
    → segment_of 1
    (addresses ++ tagged tags (0x08 ∷ 0x00 ∷ ipv4_bytes o (gre_bytes first second fields (ipv4_bytes h (tcp_bytes t payload)) ++ padding))) wire
    ≡ Some (said (ipv4_source h) (ipv4_target h) t payload (length payload))
