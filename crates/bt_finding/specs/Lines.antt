-- What a search writes.
use Rattle.std.specs.Prelude.{ℕ, List, ◌++◌, codes}
use Rattle.std.specs.Net.Text.{socket_text}
use Rattle.std.specs.declared.net.socket_addr.SocketAddr.{SocketAddr}

-- the address of a peer, and the end of the line
abbrev pub peer_line : SocketAddr → List ℕ
peer_line peer = socket_text peer ++ codes "\n"
