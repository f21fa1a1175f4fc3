-- What a frame of each link type has before its packet.
use Rattle.std.specs.Prelude.{ℕ, zero, suc, ◌+◌, ◌-◌, ◌*◌, ◌/◌, ◌%◌, ◌||◌, ◌&&◌, ◌==◌, nat_le}
use Rattle.std.specs.Prelude.{nat_lt, bit_and, Bool, List, [], ◌∷◌, length, take, Option, Some, None, option_and_then, if◌then◌else◌}
use Rattle.bt_packet.specs.Bytes.{word, low_word, low_long_word, after}

-- the types of VLAN tags (IEEE 802.1Q 9.5): C-tag, S-tag, and 0x9100, which came before the S-tag
abbrev pub is_tag : ℕ → Bool
is_tag type = (type == 0x8100) || ((type == 0x88a8) || (type == 0x9100))

-- the types of IPv4 and IPv6 (IEEE 802.3 3.2.6)
abbrev pub is_ip : ℕ → Bool
is_ip type = (type == 0x0800) || (type == 0x86dd)

-- ---- MPLS

-- the types of a label stack (RFC 3032 5, RFC 5332 3)
abbrev pub is_mpls : ℕ → Bool
is_mpls type = (type == 0x8847) || (type == 0x8848)

-- the bit S of an entry's third byte: no entry follows (RFC 3032 2.1)
abbrev pub is_bottom : ℕ → Bool
is_bottom bits = bits % 2 == 1

-- What follows a label stack, which has entries of 4 bytes up to the one with S (RFC 3032 2.1).
unfoldable pub unlabelled : List ℕ → Option (List ℕ)
unlabelled (a ∷ b ∷ c ∷ d ∷ rest) = if is_bottom c then Some rest else unlabelled rest
unlabelled bytes = None

-- ---- PPP

-- the protocols of IPv4 (RFC 1332 2) and IPv6 (RFC 5072 3), by their second byte
abbrev pub is_ppp_ip : ℕ → Bool
is_ppp_ip protocol = (protocol == 0x21) || (protocol == 0x57)

-- what follows the second byte of a protocol of IP
unfoldable pub ppp_low : List ℕ → Option (List ℕ)
ppp_low (a ∷ rest) = if is_ppp_ip a then Some rest else None
ppp_low [] = None

-- A protocol has two bytes (RFC 1661 2), or only the second one if the first is 0 and they were compressed (RFC 1661 6.5).
unfoldable pub ppp : List ℕ → Option (List ℕ)
ppp (a ∷ rest) = if a == 0 then ppp_low rest else ppp_low (a ∷ rest)
ppp [] = None

-- What follows the address and the control field of a frame like those of HDLC (RFC 1662 3.1), which may be left out (RFC 1662 3.2).
unfoldable pub unframed : List ℕ → List ℕ
unframed (a ∷ b ∷ rest) = if (a == 0xff) && (b == 0x03) then rest else a ∷ b ∷ rest
unframed bytes = bytes

-- PPP over Ethernet, in the session stage: version 1, type 1, code 0, a session, a length, and PPP (RFC 2516 4)
unfoldable pub session : List ℕ → Option (List ℕ)
session (first ∷ code ∷ s0 ∷ s1 ∷ l0 ∷ l1 ∷ rest) = if (first == 0x11) && (code == 0) then ppp rest else None
session bytes = None

-- ----

-- what follows a type that is no tag: a packet of IP; labels of MPLS, and a packet; a session of PPP over Ethernet (RFC 2516 4)
unfoldable pub network : ℕ → List ℕ → Option (List ℕ)
network type bytes = if is_ip type then Some bytes else if is_mpls type then unlabelled bytes else if type == 0x8864 then session bytes else None

-- A type and what follows it: after a VLAN tag's two bytes, the next type and what follows that (IEEE 802.1Q 9.5).
unfoldable pub after_type : ℕ → List ℕ → Option (List ℕ)
after_type type (a ∷ b ∷ c ∷ d ∷ rest) = if is_tag type then after_type (word c d) rest else network type (a ∷ b ∷ c ∷ d ∷ rest)
after_type type bytes = if is_tag type then None else network type bytes

-- a type of two bytes, and what follows it
unfoldable pub typed : List ℕ → Option (List ℕ)
typed (a ∷ b ∷ rest) = after_type (word a b) rest
typed bytes = None

-- The header of Linux cooked captures, version 2: a type, and 18 bytes more.
unfoldable pub cooked : List ℕ → Option (List ℕ)
cooked (a ∷ b ∷ rest) = option_and_then (after_type (word a b)) (after 18 rest)
cooked bytes = None

-- ---- IEEE 802.11

-- version 0, a data frame that has data, not protected, and no fragment after it (IEEE 802.11 9.2.4.1)
abbrev pub is_plain_data : ℕ → ℕ → Bool
is_plain_data control flags = (bit_and control 0x4f == 0x08) && (bit_and flags 0x44 == 0)

-- the size of a fourth address, which a frame has that goes from one access point to another (IEEE 802.11 9.3.2.1)
abbrev pub fourth_address : ℕ → ℕ
fourth_address flags = if bit_and flags 0x03 == 0x03 then 6 else 0

-- the size of QoS control (IEEE 802.11 9.2.4.5), and with the bit +HTC of HT control too (IEEE 802.11 9.2.4.6)
abbrev pub qos_control : ℕ → ℕ → ℕ
qos_control control flags = if nat_lt 0 (bit_and control 0x80) then if nat_lt 0 (bit_and flags 0x80) then 6 else 2 else 0

-- LLC of SNAP, and the organization of Ethernet's types (IEEE 802 9.5, RFC 1042)
abbrev pub is_snap : ℕ → ℕ → ℕ → ℕ → ℕ → ℕ → Bool
is_snap a b c d e f = (a == 0xaa) && ((b == 0xaa) && ((c == 0x03) && ((d == 0) && ((e == 0) && (f == 0)))))

-- the packet after LLC and SNAP, and a type
unfoldable pub snap : List ℕ → Option (List ℕ)
snap (a ∷ b ∷ c ∷ d ∷ e ∷ f ∷ rest) = if is_snap a b c d e f then typed rest else None
snap bytes = None

-- the packet after sequence control, which says that this is the first fragment (IEEE 802.11 9.2.4.4), and other fields of this size
unfoldable pub sequenced : ℕ → List ℕ → Option (List ℕ)
sequenced fields (a ∷ b ∷ rest) = if a % 16 == 0 then option_and_then snap (after fields rest) else None
sequenced fields bytes = None

-- the packet in a frame of IEEE 802.11: frame control, a duration and three addresses of 20 bytes, sequence control (IEEE 802.11 9.2.3, 9.3.2.1)
unfoldable pub wireless : List ℕ → Option (List ℕ)
wireless (control ∷ flags ∷ rest) =
    if is_plain_data control flags then option_and_then (sequenced (fourth_address flags + qos_control control flags)) (after 20 rest) else None
wireless bytes = None

-- the packet after a header of radiotap: version 0, a byte, and the header's length (<https://www.radiotap.org>)
unfoldable pub radiotap : List ℕ → Option (List ℕ)
radiotap (a ∷ b ∷ c ∷ d ∷ rest) = if a == 0 then option_and_then wireless (after (low_word c d) (a ∷ b ∷ c ∷ d ∷ rest)) else None
radiotap bytes = None

-- ---- NFLOG (<https://www.tcpdump.org/linktypes/LINKTYPE_NFLOG.html>)

-- Values are padded to 4 bytes.
abbrev pub padded : ℕ → ℕ
padded n = 4 * ((n + 3) / 4)

-- Attributes: each has its length, with these four bytes, a type, and a value. Of the one with the type 9 the value is the packet. Lengths and
-- types are written with the low byte first. There are at most n.
unfoldable pub attributes : ℕ → List ℕ → Option (List ℕ)
attributes (suc n) (a ∷ b ∷ c ∷ d ∷ rest) =
    if nat_lt (low_word a b) 4 then None
    else if low_word c d == 9 then Some (take (low_word a b - 4) rest)
    else option_and_then (attributes n) (after (padded (low_word a b) - 4) rest)
attributes n bytes = None

abbrev pub all_attributes : List ℕ → Option (List ℕ)
all_attributes bytes = attributes (length bytes) bytes

-- ----

abbrev pub is_loopback : ℕ → Bool
is_loopback link = (link == 0) || (link == 108)

abbrev pub is_raw : ℕ → Bool
is_raw link = (link == 12) || ((link == 14) || ((link == 101) || ((link == 228) || (link == 229))))

abbrev pub is_ppp : ℕ → Bool
is_ppp link = (link == 9) || (link == 50)

-- The packet of a frame: in Ethernet two addresses of 6 bytes come before the type (IEEE 802.3 3.1.1), in Linux cooked captures 14 bytes;
-- a loopback header has 4 bytes.
abbrev pub plain_packet_in : ℕ → List ℕ → Option (List ℕ)
plain_packet_in link bytes =
    if link == 1 then option_and_then typed (after 12 bytes)
    else if link == 113 then option_and_then typed (after 14 bytes)
    else if link == 276 then cooked bytes
    else if is_loopback link then after 4 bytes
    else if is_raw link then Some bytes
    else if is_ppp link then ppp (unframed bytes)
    else if link == 51 then session bytes
    else if link == 105 then wireless bytes
    else if link == 127 then radiotap bytes
    else if link == 239 then option_and_then all_attributes (after 4 bytes)
    else None

-- PKTAP: the header's length, a type, and the link type of what follows the header (<https://www.tcpdump.org/linktypes/LINKTYPE_PKTAP.html>)
unfoldable pub tapped : List ℕ → Option (List ℕ)
tapped (a ∷ b ∷ c ∷ d ∷ e ∷ f ∷ g ∷ h ∷ i ∷ j ∷ k ∷ l ∷ rest) =
    option_and_then (plain_packet_in (low_long_word i j k l)) (after (low_long_word a b c d) (a ∷ b ∷ c ∷ d ∷ e ∷ f ∷ g ∷ h ∷ i ∷ j ∷ k ∷ l ∷ rest))
tapped bytes = None

-- the packet of a frame
abbrev pub packet_in : ℕ → List ℕ → Option (List ℕ)
packet_in link bytes = if link == 258 then tapped bytes else plain_packet_in link bytes

-- ---- GRE

-- version 0, and none of the bits that only RFC 1701 has (RFC 2784 2.1, 2.3)
abbrev pub is_gre : ℕ → ℕ → Bool
is_gre first second = (bit_and first 0x4c == 0) && (second % 8 == 0)

abbrev pub field : ℕ → ℕ → ℕ
field first bit = if nat_lt 0 (bit_and first bit) then 4 else 0

-- the size of the fields that the flags C, K and S announce: a checksum, a key, a sequence number (RFC 2784 2.1, RFC 2890 2)
abbrev pub gre_fields : ℕ → ℕ
gre_fields first = field first 0x80 + (field first 0x20 + field first 0x10)

-- The protocol type is an Ethernet type (RFC 2784 2.4). 0x6558 stands for a frame of Ethernet (RFC 1701, RFC 7637 3.2).
unfoldable pub bridged : ℕ → List ℕ → Option (List ℕ)
bridged type bytes = if type == 0x6558 then option_and_then typed (after 12 bytes) else after_type type bytes

-- the packet after a header of GRE (RFC 2784 2.1)
unfoldable pub gre : List ℕ → Option (List ℕ)
gre (first ∷ second ∷ a ∷ b ∷ rest) = if is_gre first second then option_and_then (bridged (word a b)) (after (gre_fields first) rest) else None
gre bytes = None
