-- Which node is asked next. BEP 5, "get_peers": the search goes on with the nodes that are closest to the info hash.
use Rattle.std.specs.Prelude.{◌≡◌, ℕ, ◌&&◌, nat_lt, not, Bool, true, false, List, count_by, All, Contains, Option, Some, None, if◌then◌else◌}
use Rattle.std.specs.declared.net.socket_addr.SocketAddr.{SocketAddr}
use Rattle.bt_dht.specs.Distances.{distance_of}
use Rattle.bt_seek.specs.declared.node.Known.{Known}

-- A node that the user named has no id yet, and is nearer than all that have one.
abbrev pub is_nearer_id : List ℕ → Option (List ℕ) → Option (List ℕ) → Bool
is_nearer_id hash None None = false
is_nearer_id hash None (Some b) = true
is_nearer_id hash (Some a) None = false
is_nearer_id hash (Some a) (Some b) = nat_lt (distance_of a hash) (distance_of b hash)

abbrev pub is_nearer : List ℕ → Known → Known → Bool
is_nearer hash a b = is_nearer_id hash a.id b.id

-- one of the nodes that weren't asked, of which none is nearer; or all were asked
abbrev pub IsBest : List ℕ → List Known → Option Known → Type 0
IsBest hash nodes None = All (λ m. m.is_asked ≡ true) nodes
IsBest hash nodes (Some n) = Contains nodes n × (n.is_asked ≡ false) × All (λ m. m.is_asked ≡ false → is_nearer hash m n ≡ false) nodes

-- the address of such a node
abbrev pub IsNext : List ℕ → List Known → SocketAddr → Type 0
IsNext hash nodes a = (n : Known) × IsBest hash nodes (Some n) × (a ≡ n.address)

-- how many nodes that have answered are nearer
abbrev pub nearer_answers : List ℕ → List Known → Known → ℕ
nearer_answers hash nodes n = count_by (λ m. m.has_answered && is_nearer hash m n) nodes

-- ---- for private contracts

-- the better of the best one so far and another
abbrev pub better_of : List ℕ → Option Known → Known → Option Known
better_of hash None n = if n.is_asked then None else Some n
better_of hash (Some b) n = if not n.is_asked && is_nearer hash n b then Some n else Some b
