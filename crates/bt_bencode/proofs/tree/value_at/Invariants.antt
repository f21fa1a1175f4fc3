-- The key is not in a pair before this one.
use Rattle.std.proofs.Common.{◌≡◌, drop}
use Rattle.bt_bencode.specs.Keys.{value_at}
use Rattle.bt_bencode.specs.Views.{pairs_of}
use Rattle.bt_bencode.proofs.tree.value_at.Given as goal

abbrev pub invariant-loop-k : goal.invariant-loop-k
invariant-loop-k l = value_at l.key (pairs_of (drop l.k-index l.k-items)) ≡ value_at l.key l.pairs
