-- Which segment a frame carries: by what stands after what. `Tcp.segment_of` says the same as a function.
use Rattle.std.specs.Prelude.{◌≡◌, ℕ, ◌+◌, ◌-◌, ◌*◌, ◌/◌, ◌%◌, ◌<◌, ◌==◌, nat_lt, ⊤, true, false, List, [], ◌∷◌, ◌++◌, length, Option, Some, None, ◌⊎◌, ◌↔◌}
use Rattle.bt_packet.specs.Bytes.{word, low_word, low_long_word}
use Rattle.bt_packet.specs.Links.{is_ip, is_mpls, is_bottom, is_ppp_ip, is_loopback, is_raw, is_ppp, is_gre, gre_fields}
use Rattle.bt_packet.specs.Links.{is_plain_data, fourth_address, qos_control, padded}
use Rattle.bt_packet.specs.Ip.{Contents, total_of, is_fragment, is_extension, is_ip_in_ip, is_wrapped}
use Rattle.bt_packet.specs.Tcp.{TcpSegment, segment_of}
use Rattle.bt_packet.specs.Frames.{Tag, tagged, AreTags, Label, stacked, AreAbove, Ipv4, ipv4_bytes, ipv4_source, ipv4_target, Ipv6, ipv6_bytes}
use Rattle.bt_packet.specs.Frames.{Extension, first_of, extended, AreExtensions, Tcp, tcp_bytes, said}
use Rattle.bt_packet.specs.declared.address.Host.TheVariants.{V6}

-- a header of n bytes, and what follows it
pub record Follows (n : ℕ) (bytes rest : List ℕ) : Type 0 where
  pub header : List ℕ
  pub is : bytes ≡ header ++ rest
  pub size : length header ≡ n

-- a label stack, of which the last entry has S, and a packet (RFC 3032 2.1)
pub record IsLabelled (bytes packet : List ℕ) : Type 0 where
  pub above : List Label
  pub last : Label
  pub is : bytes ≡ stacked above (stacked (last ∷ []) packet)
  pub are_above : AreAbove above
  pub is_last : is_bottom last.bits ≡ true

-- a protocol of IP, whose first byte may be compressed, and a packet (RFC 1661 2, 6.5)
pub data IsPpp (bytes packet : List ℕ) : Type 0 where
  two : (a : ℕ) → bytes ≡ 0 ∷ a ∷ packet → is_ppp_ip a ≡ true → IsPpp bytes packet
  one : (a : ℕ) → bytes ≡ a ∷ packet → is_ppp_ip a ≡ true → IsPpp bytes packet

-- an address and a control field, which may be left out, and PPP (RFC 1662 3.1, 3.2)
pub data IsFramed (bytes packet : List ℕ) : Type 0 where
  framed : (rest : List ℕ) → bytes ≡ 0xff ∷ 0x03 ∷ rest → IsPpp rest packet → IsFramed bytes packet
  bare : IsPpp bytes packet → IsFramed bytes packet

-- version 1, type 1 and code 0, a session, a length, and PPP (RFC 2516 4)
pub record IsSession (bytes packet : List ℕ) : Type 0 where
  pub s0 : ℕ
  pub s1 : ℕ
  pub l0 : ℕ
  pub l1 : ℕ
  pub rest : List ℕ
  pub is : bytes ≡ 0x11 ∷ 0x00 ∷ s0 ∷ s1 ∷ l0 ∷ l1 ∷ rest
  pub has_packet : IsPpp rest packet

-- what follows a type: a packet of IP; a label stack and a packet; or a session of PPP over Ethernet
pub data IsNetwork (type : ℕ) (bytes packet : List ℕ) : Type 0 where
  direct : is_ip type ≡ true → bytes ≡ packet → IsNetwork type bytes packet
  labelled : is_mpls type ≡ true → IsLabelled bytes packet → IsNetwork type bytes packet
  in_session : type ≡ 0x8864 → IsSession bytes packet → IsNetwork type bytes packet

-- a payload of this size, and padding; or the front of one, which the capture cut
pub data IsPayload (size : ℕ) (bytes payload : List ℕ) : Type 0 where
  whole : (padding : List ℕ) → bytes ≡ payload ++ padding → length payload ≡ size → IsPayload size bytes payload
  cut : bytes ≡ payload → length payload < size → IsPayload size bytes payload

-- VLAN tags, a type, and what follows it (IEEE 802.1Q 9.5)
pub record IsTyped (bytes packet : List ℕ) : Type 0 where
  pub tags : List Tag
  pub a : ℕ
  pub b : ℕ
  pub rest : List ℕ
  pub is : bytes ≡ tagged tags (a ∷ b ∷ rest)
  pub are_tags : AreTags tags
  pub network : IsNetwork (word a b) rest packet

-- Linux cooked captures, version 2: a type, 18 bytes of the header, and what follows the type
pub record IsCooked (bytes packet : List ℕ) : Type 0 where
  pub a : ℕ
  pub b : ℕ
  pub more : List ℕ
  pub rest : List ℕ
  pub is : bytes ≡ a ∷ b ∷ more
  pub header : Follows 18 more rest
  pub typed : IsTyped (a ∷ b ∷ rest) packet

-- LLC of SNAP with the organization of Ethernet's types, and a type (IEEE 802 9.5, RFC 1042)
pub record IsSnap (bytes packet : List ℕ) : Type 0 where
  pub rest : List ℕ
  pub is : bytes ≡ 0xaa ∷ 0xaa ∷ 0x03 ∷ 0 ∷ 0 ∷ 0 ∷ rest
  pub typed : IsTyped rest packet

-- A data frame: frame control, a duration and three addresses, sequence control with the number 0 of a fragment, perhaps a fourth address,
-- QoS control and HT control, and LLC (IEEE 802.11 9.2.3, 9.3.2.1).
pub record IsWireless (bytes packet : List ℕ) : Type 0 where
  pub control : ℕ
  pub flags : ℕ
  pub more : List ℕ
  pub number : ℕ
  pub sequence : ℕ
  pub tail : List ℕ
  pub rest : List ℕ
  pub is : bytes ≡ control ∷ flags ∷ more
  pub is_data : is_plain_data control flags ≡ true
  pub addresses : Follows 20 more (number ∷ sequence ∷ tail)
  pub is_first : (number % 16 == 0) ≡ true
  pub fields : Follows (fourth_address flags + qos_control control flags) tail rest
  pub has_snap : IsSnap rest packet

-- a header of radiotap of version 0 with its length, and a frame of 802.11
pub record IsRadiotap (bytes packet : List ℕ) : Type 0 where
  pub b : ℕ
  pub c : ℕ
  pub d : ℕ
  pub more : List ℕ
  pub rest : List ℕ
  pub is : bytes ≡ 0 ∷ b ∷ c ∷ d ∷ more
  pub header : Follows (low_word c d) bytes rest
  pub frame : IsWireless rest packet

-- an attribute of NFLOG: its length, its type, and a value with padding
pub record Attribute : Type 0 where
  pub a : ℕ
  pub b : ℕ
  pub c : ℕ
  pub d : ℕ
  pub value : List ℕ

abbrev pub in_a_row : List Attribute → List ℕ → List ℕ
in_a_row [] rest = rest
in_a_row (x ∷ xs) rest = x.a ∷ x.b ∷ x.c ∷ x.d ∷ (x.value ++ in_a_row xs rest)

-- They have no packet, and values of their length.
abbrev pub AreOthers : List Attribute → Type 0
AreOthers [] = ⊤
AreOthers (x ∷ xs) =
    (nat_lt (low_word x.a x.b) 4 ≡ false) × ((low_word x.c x.d == 9) ≡ false) × (length x.value ≡ padded (low_word x.a x.b) - 4) × AreOthers xs

-- a header of 4 bytes, attributes, and one with a packet
pub record IsLogged (bytes packet : List ℕ) : Type 0 where
  pub attributes : List ℕ
  pub header : Follows 4 bytes attributes
  pub others : List Attribute
  pub a : ℕ
  pub b : ℕ
  pub c : ℕ
  pub d : ℕ
  pub rest : List ℕ
  pub is : attributes ≡ in_a_row others (a ∷ b ∷ c ∷ d ∷ rest)
  pub are_others : AreOthers others
  pub has_length : nat_lt (low_word a b) 4 ≡ false
  pub has_packet : (low_word c d == 9) ≡ true
  pub payload : IsPayload (low_word a b - 4) rest packet

-- the packet of a frame, by the link type
pub data IsPacket (link : ℕ) (bytes packet : List ℕ) : Type 0 where
  ethernet : (rest : List ℕ) → link ≡ 1 → Follows 12 bytes rest → IsTyped rest packet → IsPacket link bytes packet
  cooked : (rest : List ℕ) → link ≡ 113 → Follows 14 bytes rest → IsTyped rest packet → IsPacket link bytes packet
  cooked_2 : link ≡ 276 → IsCooked bytes packet → IsPacket link bytes packet
  loopback : is_loopback link ≡ true → Follows 4 bytes packet → IsPacket link bytes packet
  raw : is_raw link ≡ true → bytes ≡ packet → IsPacket link bytes packet
  point_to_point : is_ppp link ≡ true → IsFramed bytes packet → IsPacket link bytes packet
  over_ethernet : link ≡ 51 → IsSession bytes packet → IsPacket link bytes packet
  wireless : link ≡ 105 → IsWireless bytes packet → IsPacket link bytes packet
  radiotap : link ≡ 127 → IsRadiotap bytes packet → IsPacket link bytes packet
  logged : link ≡ 239 → IsLogged bytes packet → IsPacket link bytes packet

-- a header of PKTAP with its length, and a frame of the link type that it names
pub record IsTapped (bytes packet : List ℕ) : Type 0 where
  pub a : ℕ
  pub b : ℕ
  pub c : ℕ
  pub d : ℕ
  pub e : ℕ
  pub f : ℕ
  pub g : ℕ
  pub h : ℕ
  pub i : ℕ
  pub j : ℕ
  pub k : ℕ
  pub l : ℕ
  pub more : List ℕ
  pub rest : List ℕ
  pub is : bytes ≡ a ∷ b ∷ c ∷ d ∷ e ∷ f ∷ g ∷ h ∷ i ∷ j ∷ k ∷ l ∷ more
  pub header : Follows (low_long_word a b c d) bytes rest
  pub frame : IsPacket (low_long_word i j k l) rest packet

-- the packet of a frame, perhaps after a header of PKTAP
pub data IsInFrame (link : ℕ) (bytes packet : List ℕ) : Type 0 where
  plain_frame : (link == 258) ≡ false → IsPacket link bytes packet → IsInFrame link bytes packet
  tapped : link ≡ 258 → IsTapped bytes packet → IsInFrame link bytes packet

-- a packet of version 4 that is no fragment: a header, options, a payload (RFC 791 3.1)
pub record IsV4 (wire : ℕ) (packet : List ℕ) (c : Contents) : Type 0 where
  pub h : Ipv4
  pub rest : List ℕ
  pub is : packet ≡ ipv4_bytes h rest
  pub version : h.first / 16 ≡ 4
  pub header_length : 4 * (h.first % 16) ≡ 20 + length h.options
  pub total_length : total_of (word h.t0 h.t1) wire ≡ 20 + length h.options + c.size
  pub no_fragment : is_fragment (word h.f0 h.f1) ≡ false
  pub payload : IsPayload c.size rest c.payload
  pub protocol : c.protocol ≡ h.protocol
  pub source : c.source ≡ ipv4_source h
  pub target : c.target ≡ ipv4_target h

-- a packet of version 6: a header, and a payload, which begins with extension headers (RFC 8200 3, 4)
pub record IsV6 (wire : ℕ) (packet : List ℕ) (c : Contents) : Type 0 where
  pub h : Ipv6
  pub extensions : List Extension
  pub size : ℕ
  pub rest : List ℕ
  pub payload : List ℕ
  pub is : packet ≡ ipv6_bytes h (first_of extensions c.protocol) rest
  pub version : h.first / 16 ≡ 6
  pub payload_length : total_of (word h.l0 h.l1) (wire - 40) ≡ size
  pub has_payload : IsPayload size rest payload
  pub begins : payload ≡ extended extensions c.protocol c.payload
  pub are_extensions : AreExtensions extensions
  pub ends : is_extension c.protocol ≡ false
  pub left : c.size ≡ size - (length payload - length c.payload)
  pub source_length : length h.source ≡ 16
  pub target_length : length h.target ≡ 16
  pub source : c.source ≡ V6 h.source
  pub target : c.target ≡ V6 h.target

-- what a packet carries
pub data IsIp (wire : ℕ) (packet : List ℕ) (c : Contents) : Type 0 where
  version_4 : IsV4 wire packet c → IsIp wire packet c
  version_6 : IsV6 wire packet c → IsIp wire packet c

-- ---- packets in packets

-- a frame of Ethernet after its type (RFC 1701, RFC 7637 3.2), or what follows another type
pub data IsBridged (a b : ℕ) (bytes packet : List ℕ) : Type 0 where
  frame : (rest : List ℕ) → word a b ≡ 0x6558 → Follows 12 bytes rest → IsTyped rest packet → IsBridged a b bytes packet
  another : (word a b == 0x6558) ≡ false → IsTyped (a ∷ b ∷ bytes) packet → IsBridged a b bytes packet

-- flags, version 0, a type, the fields that the flags announce, and what the type says (RFC 2784 2.1, RFC 2890 2)
pub record IsGre (bytes packet : List ℕ) : Type 0 where
  pub first : ℕ
  pub second : ℕ
  pub a : ℕ
  pub b : ℕ
  pub more : List ℕ
  pub rest : List ℕ
  pub is : bytes ≡ first ∷ second ∷ a ∷ b ∷ more
  pub version : is_gre first second ≡ true
  pub fields : Follows (gre_fields first) more rest
  pub bridged : IsBridged a b rest packet

-- the packet in a payload of this protocol
pub data IsTunnelled (protocol : ℕ) (payload packet : List ℕ) : Type 0 where
  ip_in_ip : is_ip_in_ip protocol ≡ true → payload ≡ packet → IsTunnelled protocol payload packet
  in_gre : protocol ≡ 47 → IsGre payload packet → IsTunnelled protocol payload packet

-- a header of authentication: the next protocol, a length, and what else it says (RFC 4302 2)
pub record IsAuthenticated (o c : Contents) : Type 0 where
  pub words : ℕ
  pub more : List ℕ
  pub is : o.payload ≡ c.protocol ∷ words ∷ more
  pub header : Follows (4 * words + 6) more c.payload
  pub left : c.size ≡ o.size - (4 * words + 8)
  pub source : c.source ≡ o.source
  pub target : c.target ≡ o.target

-- c is what is in o
pub data IsWithin (o c : Contents) : Type 0 where
  in_authentication : o.protocol ≡ 51 → IsAuthenticated o c → IsWithin o c
  in_tunnel : (packet : List ℕ) → IsTunnelled o.protocol o.payload packet → IsIp (o.size - (length o.payload - length packet)) packet c → IsWithin o c

-- Each of these is in the one before.
abbrev pub AreWithin : Contents → List Contents → Contents → Type 0
AreWithin o [] c = o ≡ c
AreWithin o (i ∷ more) c = IsWithin o i × AreWithin i more c

-- A frame of this link type, of which these bytes were captured and which is `wire` bytes long on the wire, carries the contents: they are the
-- innermost of its packet's.
pub record IsCarriedBy (link : ℕ) (bytes : List ℕ) (wire : ℕ) (c : Contents) : Type 0 where
  pub packet : List ℕ
  pub has_packet : IsInFrame link bytes packet
  pub outermost : Contents
  pub has_contents : IsIp (wire - (length bytes - length packet)) packet outermost
  pub between : List Contents
  pub within : AreWithin outermost between c
  pub innermost : is_wrapped c.protocol ≡ false

-- what a frame carries is told: its contents, or that it carries nothing
abbrev pub AreContentsTold : ℕ → List ℕ → ℕ → Option Contents → Type 0
AreContentsTold link bytes wire (Some c) = IsCarriedBy link bytes wire c
AreContentsTold link bytes wire None = (c : Contents) → ¬ (IsCarriedBy link bytes wire c)

-- options up to the data offset; the capture may have cut them, and then there are no data
abbrev pub HasOptions : ℕ → List ℕ → List ℕ → Type 0
HasOptions header options data' = (header ≡ 20 + length options) ⊎ ((20 + length options < header) × (data' ≡ []))

-- a segment: a header, options and data (RFC 9293 3.1)
pub record IsTcpSegment (c : Contents) (s : TcpSegment) : Type 0 where
  pub t : Tcp
  pub protocol : c.protocol ≡ 6
  pub is : c.payload ≡ tcp_bytes t s.payload
  pub options : HasOptions (4 * (t.offset / 16)) t.options s.payload
  pub says : s ≡ said c.source c.target t s.payload (c.size - 4 * (t.offset / 16))

-- the segment that a frame carries
pub record IsSegmentOf (link : ℕ) (bytes : List ℕ) (wire : ℕ) (s : TcpSegment) : Type 0 where
  pub contents : Contents
  pub carried_by : IsCarriedBy link bytes wire contents
  pub has_segment : IsTcpSegment contents s

-- The function gives the segment that a frame carries, and nothing if it carries none. So a frame carries one at most.
abbrev pub SegmentIsRead : Type 0
SegmentIsRead = (link : ℕ) (bytes : List ℕ) (wire : ℕ) (s : TcpSegment) → IsSegmentOf link bytes wire s ↔ (segment_of link bytes wire ≡ Some s)

-- what a frame carries is told: its segment, or that it carries none
abbrev pub IsTold : ℕ → List ℕ → ℕ → Option TcpSegment → Type 0
IsTold link bytes wire (Some s) = IsSegmentOf link bytes wire s
IsTold link bytes wire None = (s : TcpSegment) → ¬ (IsSegmentOf link bytes wire s)
