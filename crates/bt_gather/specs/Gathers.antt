-- The addresses of a fetch that seeks.
use Rattle.std.specs.Prelude.{Bool, not, List, ◌++◌}
use Rattle.std.specs.List.{filter, list_any}
use Rattle.std.specs.declared.net.socket_addr.SocketAddr.{SocketAddr}
use Rattle.bt_seek.specs.Addresses.{is_same}

-- one of these has the IP and the port of the address
abbrev pub is_named : List SocketAddr → SocketAddr → Bool
is_named named a = list_any (λ b. is_same b a) named

-- first the named ones, and then those of the found ones that weren't named, in the order in which they were found
abbrev pub gathered : List SocketAddr → List SocketAddr → List SocketAddr
gathered named found = named ++ filter (λ a. not (is_named named a)) found
