-- Which addresses of a host are kept.
use Rattle.std.specs.Prelude.{Option, Some, None}
use Rattle.std.specs.declared.net.socket_addr.SocketAddr.{SocketAddr}
use Rattle.std.specs.declared.net.socket_addr.SocketAddr.TheVariants.{V4, V6}
use Rattle.bt_post.specs.declared.lookup.Found.{Found}

-- the first one of each family is kept
abbrev pub first : {X : Type 0} → Option X → X → Option X
first None x = Some x
first (Some y) x = Some y

abbrev pub noted : Found → SocketAddr → Found
noted found (V4 a) = record found { four = first found.four (V4 a) }
noted found (V6 a) = record found { six = first found.six (V6 a) }
