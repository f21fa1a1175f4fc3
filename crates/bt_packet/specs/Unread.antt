-- Why nothing of a frame is read.
use Rattle.std.specs.Prelude.{ℕ, ◌/◌, ◌||◌, ◌&&◌, ◌==◌, nat_le, not, Bool, true, false, List, ◌∷◌, Option, Some, None, option_and_then, if◌then◌else◌}
use Rattle.bt_packet.specs.Bytes.{word, after}
use Rattle.bt_packet.specs.Links.{is_tag, is_ip, is_mpls, is_loopback, is_raw, is_ppp, packet_in}
use Rattle.bt_packet.specs.Ip.{is_fragment, is_atomic}
use Rattle.bt_packet.specs.declared.unread.Unread.{Unread}
use Rattle.bt_packet.specs.declared.unread.Unread.TheVariants.{LinkType, EtherType, Fragment, Other}

-- the link types that are read
abbrev pub is_link : ℕ → Bool
is_link link =
    (link == 1) || ((link == 113) || ((link == 276) || (is_loopback link || (is_raw link || (is_ppp link
    || ((link == 51) || ((link == 105) || ((link == 127) || ((link == 239) || (link == 258))))))))))

-- the types of Ethernet that are read: IP, MPLS, and a session of PPP over Ethernet
abbrev pub is_read_type : ℕ → Bool
is_read_type type = is_ip type || (is_mpls type || (type == 0x8864))

-- It is a type, and no length of a frame (IEEE 802.3 3.2.6), and isn't read.
abbrev pub is_unread_type : ℕ → Bool
is_unread_type type = nat_le 1536 type && not (is_read_type type)

-- the type after VLAN tags (IEEE 802.1Q 9.5), if it was captured
unfoldable pub type_after : ℕ → List ℕ → Option ℕ
type_after type (a ∷ b ∷ c ∷ d ∷ rest) = if is_tag type then type_after (word c d) rest else Some type
type_after type bytes = if is_tag type then None else Some type

-- the type that bytes begin with, or the one after VLAN tags
unfoldable pub first_type : List ℕ → Option ℕ
first_type (a ∷ b ∷ rest) = type_after (word a b) rest
first_type bytes = None

-- the type of a frame of Ethernet (IEEE 802.3 3.1.1); others have none here
abbrev pub type_in : ℕ → List ℕ → Option ℕ
type_in link bytes = if link == 1 then option_and_then first_type (after 12 bytes) else None

-- a header of a fragment, after its first two bytes, that doesn't hold the whole packet (RFC 6946 2)
abbrev pub is_part : Option (List ℕ) → Bool
is_part None = false
is_part (Some content) = not (is_atomic content)

-- A packet of version 4 that is a fragment (RFC 791 3.1), or one of version 6 whose first extension header says so (RFC 8200 4.5).
unfoldable pub is_fragmented : List ℕ → Bool
is_fragmented (first ∷ b ∷ c ∷ d ∷ e ∷ f ∷ next ∷ h ∷ rest) =
    if first / 16 == 4 then is_fragment (word next h)
    else (first / 16 == 6) && ((next == 44) && is_part (after 34 rest))
is_fragmented bytes = false

abbrev pub by_packet : Option (List ℕ) → Unread
by_packet None = Other
by_packet (Some packet) = if is_fragmented packet then Fragment else Other

abbrev pub by_type : Option ℕ → Unread → Unread
by_type None rest = rest
by_type (Some type) rest = if is_unread_type type then EtherType type else rest

-- The link type isn't read; or the type isn't; or the packet is a fragment; or something else.
abbrev pub unread : ℕ → List ℕ → Unread
unread link bytes = if is_link link then by_type (type_in link bytes) (by_packet (packet_in link bytes)) else LinkType link
