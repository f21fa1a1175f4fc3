-- The rest goes on as the whole does.
use Rattle.std.proofs.Common.{◌≡◌, ◌≤◌, ◌++◌, ◌∷◌, ◌+◌, ◌*◌, ℕ, List, length}
use Rattle.bt_bencode.specs.Trees.{Trees, Pairs}
use Rattle.bt_bencode.specs.Bencoding.{ben_all, ben_pairs, AllInRange, PairsInRange}
use Rattle.bt_bencode.proofs.Skips.{Left, LeftPairs}
use Rattle.bt_bencode.proofs.skip.+skip.Given as goal

abbrev pub decreases-skip_value : goal.decreases-skip_value
decreases-skip_value l = 3 * length l.bytes.now

abbrev pub decreases-pass_value : goal.decreases-pass_value
decreases-pass_value l = 3 * length l.bytes.now + 1

abbrev pub decreases-skip_items : goal.decreases-skip_items
decreases-skip_items l = 3 * length l.bytes.now + 2

abbrev pub decreases-skip_pairs : goal.decreases-skip_pairs
decreases-skip_pairs l = 3 * length l.bytes.now + 2

abbrev pub invariant-skip_items-loop-rest : goal.invariant-skip_items-loop-rest
invariant-skip_items-loop-rest l = record {
  within : length l.rest ≤ length l.fn.bytes;
  left : (ts : Trees) (more : List ℕ) → AllInRange ts → l.fn.bytes ≡ ben_all ts ++ 101 ∷ more → Left more l.rest;
}

abbrev pub decreases-skip_items-loop-rest : goal.decreases-skip_items-loop-rest
decreases-skip_items-loop-rest l = length l.rest

abbrev pub invariant-skip_pairs-loop-rest : goal.invariant-skip_pairs-loop-rest
invariant-skip_pairs-loop-rest l = record {
  within : length l.rest ≤ length l.fn.bytes;
  left : (ps : Pairs) (more : List ℕ) → PairsInRange ps → l.fn.bytes ≡ ben_pairs ps ++ 101 ∷ more → LeftPairs more l.rest;
}

abbrev pub decreases-skip_pairs-loop-rest : goal.decreases-skip_pairs-loop-rest
decreases-skip_pairs-loop-rest l = length l.rest
