-- A datagram of the DHT. BEP 5, "KRPC Protocol": "A KRPC message is a single dictionary".
use Rattle.std.specs.Prelude.{◌≡◌, ℕ, List, Option, Some, None}
use Rattle.bt_bencode.specs.Trees.{Pairs, dictionary}
use Rattle.bt_bencode.specs.Bencoding.{Spells}
use Rattle.bt_bencode.specs.Views.{tree_of}
use Rattle.bt_bencode.specs.declared.tree.Value.{Value}

-- all of the datagram encodes this dictionary; or it encodes none
abbrev pub IsReadAs : List ℕ → Option Value → Type 0
IsReadAs datagram (Some v) = (ps : Pairs) × (tree_of v ≡ dictionary ps) × Spells ps datagram
IsReadAs datagram None = (ps : Pairs) → Spells ps datagram → ⊥
