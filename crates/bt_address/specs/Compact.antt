-- Addresses in compact form: of IPv4 6 bytes (BEP 23), of IPv6 18 (BEP 7, BEP 32).
use Rattle.std.specs.Prelude.{◌≡◌, ℕ, ◌/◌, ◌%◌, List, [], ◌∷◌, ◌++◌, length}
use Rattle.std.specs.Net.Addr.{ipv4_octets, ipv6_octets}
use Rattle.std.specs.Net.Socket.{v4_ip, v4_port, v6_ip, v6_port, v6_flowinfo, v6_scope_id}
use Rattle.std.specs.declared.net.socket_addr.SocketAddr.{SocketAddr}
use Rattle.std.specs.declared.net.socket_addr.SocketAddr.TheVariants as Socket
use Rattle.bt_address.specs.declared.compact.Family.{Family}
use Rattle.bt_address.specs.declared.compact.Family.TheVariants as family

-- the bytes of a port, the high one first
abbrev pub port_bytes : ℕ → List ℕ
port_bytes n = (n / 256) ∷ (n % 256) ∷ []

-- the bytes of an address: the IP, and then the port
abbrev pub compact_of : SocketAddr → List ℕ
compact_of (Socket.V4 a) = ipv4_octets (v4_ip a) ++ port_bytes (v4_port a)
compact_of (Socket.V6 a) = ipv6_octets (v6_ip a) ++ port_bytes (v6_port a)

-- how many they are
abbrev pub size_of : Family → ℕ
size_of family.V4 = 6
size_of family.V6 = 18

-- an address of the family, which is no more than those bytes: without flow information and scope, its IP of 4 or 16 octets
abbrev pub IsPlainOf : Family → SocketAddr → Type 0
IsPlainOf family.V4 (Socket.V4 a) = length (ipv4_octets (v4_ip a)) ≡ 4
IsPlainOf family.V4 (Socket.V6 a) = ⊥
IsPlainOf family.V6 (Socket.V4 a) = ⊥
IsPlainOf family.V6 (Socket.V6 a) = (length (ipv6_octets (v6_ip a)) ≡ 16) × (v6_flowinfo a ≡ 0) × (v6_scope_id a ≡ 0)
