-- The question get_peers (BEP 5, "get_peers"; BEP 32, "want"; BEP 43, "ro").
use Rattle.std.specs.Prelude.{ℕ, pos, List, [], ◌++◌, codes, Option, Some, None}
use Rattle.bt_bencode.specs.Trees.{integer, string, list, dictionary, no_trees, tree, Pairs, no_pairs, pair}
use Rattle.bt_address.specs.declared.compact.Family.{Family}
use Rattle.bt_address.specs.declared.compact.Family.TheVariants as family

-- BEP 32: `want` is a list of strings: `n4` asks for `nodes`, and `n6` for `nodes6`.
abbrev pub want_of : Option Family → Pairs
want_of None = no_pairs
want_of (Some family.V4) = pair (codes "want") (list (tree (string (codes "n4")) no_trees)) no_pairs
want_of (Some family.V6) = pair (codes "want") (list (tree (string (codes "n6")) no_trees)) no_pairs

-- BEP 5: `{"id" : "<querying nodes id>", "info_hash" : "<20-byte infohash of target torrent>"}`
abbrev pub arguments_of : (own hash : List ℕ) → Option Family → Pairs
arguments_of own hash want = pair (codes "id") (string own) (pair (codes "info_hash") (string hash) (want_of want))

-- BEP 5: a query has `y` "q", its method under `q`, its arguments under `a` and a transaction id under `t`. BEP 43: a node that answers no
-- queries sets `ro` to 1 in the outer dictionary.
abbrev pub get_peers_of : (t own hash : List ℕ) → Option Family → Pairs
get_peers_of t own hash want =
    pair (codes "a") (dictionary (arguments_of own hash want))
    (pair (codes "q") (string (codes "get_peers"))
    (pair (codes "ro") (integer (pos 1)) (pair (codes "t") (string t) (pair (codes "y") (string (codes "q")) no_pairs))))

-- ---- for private contracts

abbrev pub want_bytes : Option Family → List ℕ
want_bytes None = []
want_bytes (Some family.V4) = codes "4:wantl2:n4e"
want_bytes (Some family.V6) = codes "4:wantl2:n6e"

abbrev pub get_peers_bytes : (t own hash : List ℕ) → Option Family → List ℕ
get_peers_bytes t own hash want = codes "d1:ad2:id20:" ++ own ++ codes "9:info_hash20:" ++ hash ++ want_bytes want
    ++ codes "e1:q9:get_peers2:roi1e1:t4:" ++ t ++ codes "1:y1:qe"
