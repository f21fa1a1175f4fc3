-- Which addresses are the same, and which peers are kept.
use Rattle.std.specs.Prelude.{◌&&◌, ◌==◌, nat_lt, not, Bool, false, List, [], ◌∷◌, ◌++◌, length, count_by, fold, if◌then◌else◌}
use Rattle.std.specs.List.{list_any}
use Rattle.std.specs.Str.{bytes_eq}
use Rattle.std.specs.Net.Addr.{ipv4_octets, ipv6_octets}
use Rattle.std.specs.Net.Socket.{v4_ip, v6_ip, socket_port}
use Rattle.std.specs.declared.net.socket_addr.SocketAddr.{SocketAddr}
use Rattle.std.specs.declared.net.socket_addr.SocketAddr.TheVariants.{V4, V6}
use Rattle.bt_address.specs.Takeable.{is_takeable}

abbrev pub is_same_ip : SocketAddr → SocketAddr → Bool
is_same_ip (V4 a) (V4 b) = bytes_eq (ipv4_octets (v4_ip a)) (ipv4_octets (v4_ip b))
is_same_ip (V6 a) (V6 b) = bytes_eq (ipv6_octets (v6_ip a)) (ipv6_octets (v6_ip b))
is_same_ip (V4 a) (V6 b) = false
is_same_ip (V6 a) (V4 b) = false

-- one IP and one port; flow information and scope may differ
abbrev pub is_same : SocketAddr → SocketAddr → Bool
is_same a b = is_same_ip a b && (socket_port a == socket_port b)

-- one of the addresses is this one
abbrev pub has : List SocketAddr → SocketAddr → Bool
has addresses a = list_any (λ b. is_same a b) addresses

-- A told address becomes a peer if a stranger may name it, it is none yet, there are fewer than 200, and its IP has fewer than 4 ports.
abbrev pub is_new_peer : Bool → List SocketAddr → SocketAddr → Bool
is_new_peer is_local peers a = is_takeable is_local a && (not (has peers a)
    && (nat_lt (length peers) 200 && nat_lt (count_by (λ b. is_same_ip a b) peers) 4))

abbrev pub with_peer : Bool → List SocketAddr → SocketAddr → List SocketAddr
with_peer is_local peers a = if is_new_peer is_local peers a then peers ++ a ∷ [] else peers

-- the peers after these were told, one after the other
abbrev pub found_in : Bool → List SocketAddr → List SocketAddr → List SocketAddr
found_in is_local peers told = fold (with_peer is_local) peers told
