-- Which connections `--only` and `--peer` of `capture` choose.
use Rattle.std.specs.Prelude.{◌≡◌, ℕ, ◌||◌, ◌⊎◌, Bool, true, false, List, codes, Option, Some, None, is_some, if◌then◌else◌}
use Rattle.std.specs.Net.Addr.{ipv4_octets, ipv6_octets}
use Rattle.std.specs.Net.Socket.{socket_ip, socket_port}
use Rattle.std.specs.Net.Grammar.{IsIpText, IsSocketText}
use Rattle.std.specs.Str.{bytes_eq}
use Rattle.std.specs.declared.net.ip_addr.IpAddr.{IpAddr}
use Rattle.std.specs.declared.net.ip_addr.IpAddr.TheVariants as ip
use Rattle.std.specs.declared.net.socket_addr.SocketAddr.{SocketAddr}
use Rattle.clap.specs.declared.parser.matches.Found.{Found}
use Rattle.clap.specs.Matches.{first_value}
use Rattle.bt_packet.specs.declared.address.Host.{Host}
use Rattle.bt_packet.specs.declared.address.Host.TheVariants.{V4, V6}
use Rattle.bt_capture.specs.declared.choice.Choice.{Choice}
use Rattle.bt_capture.specs.declared.choice.Peer.{Peer}
use Rattle.bt_run.specs.Options.{value_of}

abbrev pub host_of : IpAddr → Host
host_of (ip.V4 a) = V4 (ipv4_octets a)
host_of (ip.V6 a) = V6 (ipv6_octets a)

abbrev pub end_of_socket : SocketAddr → Peer
end_of_socket a = record { host = host_of (socket_ip a); port = Some (socket_port a) }

abbrev pub ends_of_host : IpAddr → Peer
ends_of_host a = record { host = host_of a; port = None }

-- The text is an address with a port, or one without a port, which is each port of it.
abbrev pub IsPeerText : List ℕ → Peer → Type 0
IsPeerText text peer =
    ((a : SocketAddr) × IsSocketText text a × (peer ≡ end_of_socket a)) ⊎ ((a : IpAddr) × IsIpText text a × (peer ≡ ends_of_host a))

-- If `--peer` isn't given, connections with each end are told.
abbrev pub IsPeerAsked : Option (List ℕ) → Option Peer → Type 0
IsPeerAsked None peer = peer ≡ None
IsPeerAsked (Some text) None = ⊥
IsPeerAsked (Some text) (Some peer) = IsPeerText text peer

abbrev pub only_named : List ℕ → Option Bool
only_named text = if bytes_eq text (codes "refused") then Some true else None

-- whether `--only` asks for connections of which a direction is refused; none if its text is no value
abbrev pub only_in : Option (List ℕ) → Option Bool
only_in t = value_of false only_named t

pub record IsChoiceAsked (f : Found) (choice : Choice) : Type 0 where
  pub only : only_in (first_value f (codes "only")) ≡ Some choice.refused
  pub peer : IsPeerAsked (first_value f (codes "peer")) choice.peer

-- Not all connections are told.
abbrev pub is_choosing : Choice → Bool
is_choosing choice = choice.refused || is_some choice.peer
