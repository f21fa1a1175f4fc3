-- The key is not in a pair before this one.
use Rattle.std.proofs.Common.{◌≡◌, ◌++◌, ◌∷◌, ℕ, List, length}
use Rattle.bt_bencode.specs.Trees.{Pairs}
use Rattle.bt_bencode.specs.Bencoding.{ben_pairs, PairsInRange}
use Rattle.bt_bencode.proofs.Skips.{LeftFor}
use Rattle.bt_bencode.proofs.skip.find.Given as goal

abbrev pub invariant-loop-rest : goal.invariant-loop-rest
invariant-loop-rest l = (ps : Pairs) (more : List ℕ) → PairsInRange ps → l.fn.pairs ≡ ben_pairs ps ++ 101 ∷ more → LeftFor l.key ps more l.rest

abbrev pub decreases-loop-rest : goal.decreases-loop-rest
decreases-loop-rest l = length l.rest
