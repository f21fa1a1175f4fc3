-- Which addresses a stranger may name. The names of the blocks are those of RFC 6890.
use Rattle.std.specs.Prelude.{ℕ, ◌/◌, ◌%◌, ◌||◌, ◌&&◌, ◌==◌, nat_le, nat_lt, not, Bool, false, List, [], ◌∷◌, if◌then◌else◌}
use Rattle.std.specs.Net.Addr.{ipv4_octets, ipv6_segments}
use Rattle.std.specs.Net.Socket.{v4_ip, v6_ip, socket_port}
use Rattle.std.specs.declared.net.socket_addr.SocketAddr.{SocketAddr}
use Rattle.std.specs.declared.net.socket_addr.SocketAddr.TheVariants.{V4, V6}

-- ---- IPv4, by octets

-- This network 0.0.0.0/8, loopback 127.0.0.0/8, and from 224.0.0.0 on multicast 224.0.0.0/4, reserved 240.0.0.0/4 with limited broadcast
abbrev pub is_no_peer_v4 : ℕ → Bool
is_no_peer_v4 a = (a == 0) || ((a == 127) || nat_le 224 a)

-- Private use 10.0.0.0/8, 172.16.0.0/12 and 192.168.0.0/16, shared address space 100.64.0.0/10, link local 169.254.0.0/16
abbrev pub is_local_v4 : (a b : ℕ) → Bool
is_local_v4 a b = (a == 10) || (((a == 100) && (nat_le 64 b && nat_le b 127)) || (((a == 169) && (b == 254))
    || (((a == 172) && (nat_le 16 b && nat_le b 31)) || ((a == 192) && (b == 168)))))

-- IETF protocol assignments 192.0.0.0/24, benchmarking 198.18.0.0/15, documentation 192.0.2.0/24, 198.51.100.0/24 and 203.0.113.0/24
abbrev pub is_for_tests : (a b c : ℕ) → Bool
is_for_tests a b c = ((a == 192) && ((b == 0) && ((c == 0) || (c == 2))))
    || (((a == 198) && ((b == 18) || ((b == 19) || ((b == 51) && (c == 100))))) || ((a == 203) && ((b == 0) && (c == 113))))

abbrev pub is_takeable_v4 : Bool → List ℕ → Bool
is_takeable_v4 is_local (a ∷ b ∷ c ∷ d ∷ []) = not (is_no_peer_v4 a) && (not (is_for_tests a b c) && (is_local || not (is_local_v4 a b)))
is_takeable_v4 is_local other = false

-- ---- IPv6, by segments of 16 bits

-- IPv4-mapped address ::ffff:0:0/96, IPv4-compatible ::/96 (RFC 4291, section 2.5.5.1), of which :: and ::1 are two, and IPv4-IPv6
-- translation 64:ff9b::/96 (RFC 6052, section 2.1)
abbrev pub has_v4_last : (a b c d e f : ℕ) → Bool
has_v4_last a b c d e f = (c == 0) && ((d == 0) && ((e == 0)
    && (((a == 0) && ((b == 0) && ((f == 0) || (f == 0xffff)))) || ((a == 0x64) && ((b == 0xff9b) && (f == 0))))))

-- Multicast ff00::/8 and documentation 2001:db8::/32
abbrev pub is_no_peer_v6 : (a b : ℕ) → Bool
is_no_peer_v6 a b = nat_le 0xff00 a || ((a == 0x2001) && (b == 0xdb8))

-- Unique-local fc00::/7, linked-scoped unicast fe80::/10, and local-use translation 64:ff9b:1::/48 (RFC 8215)
abbrev pub is_local_v6 : (a b c : ℕ) → Bool
is_local_v6 a b c = (nat_le 0xfc00 a && nat_le a 0xfdff) || ((nat_le 0xfe80 a && nat_le a 0xfebf)
    || ((a == 0x64) && ((b == 0xff9b) && (c == 1))))

-- the octets of two segments
abbrev pub octets_of_two : (high low : ℕ) → List ℕ
octets_of_two high low = (high / 256) ∷ (high % 256) ∷ (low / 256) ∷ (low % 256) ∷ []

-- by the first three segments; those of 6to4 hold an IPv4 address after 2002 (RFC 3056, section 2)
abbrev pub is_takeable_front : Bool → (a b c : ℕ) → Bool
is_takeable_front is_local a b c =
    if a == 0x2002 then is_takeable_v4 is_local (octets_of_two b c)
    else (not (is_no_peer_v6 a b) && (is_local || not (is_local_v6 a b c)))

-- what holds an IPv4 address is judged by that one
abbrev pub is_takeable_v6 : Bool → List ℕ → Bool
is_takeable_v6 is_local (a ∷ b ∷ c ∷ d ∷ e ∷ f ∷ g ∷ h ∷ []) =
    if has_v4_last a b c d e f then is_takeable_v4 is_local (octets_of_two g h) else is_takeable_front is_local a b c
is_takeable_v6 is_local other = false

-- ---- both

-- by the IP
abbrev pub is_takeable_ip : Bool → SocketAddr → Bool
is_takeable_ip is_local (V4 a) = is_takeable_v4 is_local (ipv4_octets (v4_ip a))
is_takeable_ip is_local (V6 a) = is_takeable_v6 is_local (ipv6_segments (v6_ip a))

-- a port above 1, which is the one that a fetch announces
abbrev pub is_takeable : Bool → SocketAddr → Bool
is_takeable is_local a = is_takeable_ip is_local a && nat_lt 1 (socket_port a)
