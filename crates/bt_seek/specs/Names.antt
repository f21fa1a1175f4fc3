-- Who asks, and whom the link and the user name.
use Rattle.std.specs.Prelude.{ℕ, List, [], ◌∷◌, ◌++◌, map, string_bytes}
use Rattle.std.specs.declared.net.socket_addr.SocketAddr.{SocketAddr}
use Rattle.bt_seek.specs.declared.search.Ids.{Ids}
use Rattle.bt_seek.specs.declared.named.Named.{Named}
use Rattle.bt_seek.specs.declared.named.Page.{Page}

-- a tracker over HTTP: the host and the port of its URL, and the path with the query
pub record Site : Type 0 where
  pub host : List ℕ
  pub port : ℕ
  pub target : List ℕ

-- who asks and for what, the trackers over UDP, the nodes of the DHT, and the trackers over HTTP by their numbers
pub record Names : Type 0 where
  pub ids : Ids
  pub trackers : List SocketAddr
  pub nodes : List SocketAddr
  pub pages : List Site

abbrev pub nobody : Ids → Names
nobody ids = record { ids = ids; trackers = []; nodes = []; pages = [] }

-- one more of each kind
abbrev pub with_tracker : SocketAddr → Names → Names
with_tracker a n = record { ids = n.ids; trackers = n.trackers ++ a ∷ []; nodes = n.nodes; pages = n.pages }

abbrev pub with_named_node : SocketAddr → Names → Names
with_named_node a n = record { ids = n.ids; trackers = n.trackers; nodes = n.nodes ++ a ∷ []; pages = n.pages }

abbrev pub with_page : Site → Names → Names
with_page s n = record { ids = n.ids; trackers = n.trackers; nodes = n.nodes; pages = n.pages ++ s ∷ [] }

-- ---- the program's types

abbrev pub site_of : Page → Site
site_of p = record { host = string_bytes p.host; port = p.port; target = p.target.items }

abbrev pub names_of : Named → Names
names_of n = record { ids = n.ids; trackers = n.trackers.items; nodes = n.nodes.items; pages = map site_of n.pages.items }
