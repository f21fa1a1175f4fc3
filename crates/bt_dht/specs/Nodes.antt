-- A node of the DHT, and addresses by the length of their bytes.
use Rattle.std.specs.Prelude.{◌⊎◌}
use Rattle.std.specs.declared.net.socket_addr.SocketAddr.{SocketAddr}
use Rattle.bt_address.specs.Compact.{IsPlainOf}
use Rattle.bt_address.specs.declared.compact.Family.TheVariants as family

-- an address without flow information and scope
abbrev pub IsPlain : SocketAddr → Type 0
IsPlain a = IsPlainOf family.V4 a ⊎ IsPlainOf family.V6 a
