-- The key is not in a pair before this one.
use Rattle.std.proofs.Common.{ℕ, List, length}
use Rattle.bt_bencode.specs.Trees.{Pairs}
use Rattle.bt_torrent.specs.Bencoded.{ArePairs}
use Rattle.bt_torrent.proofs.Lookups.{LeftFor}
use Rattle.bt_torrent.proofs.bencoded.find.Given as goal

abbrev pub invariant-loop-rest : goal.invariant-loop-rest
invariant-loop-rest l = (ps : Pairs) (more : List ℕ) → ArePairs 31 l.fn.pairs ps more → LeftFor l.key ps more l.rest

abbrev pub decreases-loop-rest : goal.decreases-loop-rest
decreases-loop-rest l = length l.rest
