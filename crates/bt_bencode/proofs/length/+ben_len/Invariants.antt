-- What is summed so far and the spelling of what is left have the length of the whole.
use Rattle.std.proofs.Common.{◌≡◌, ◌<◌, ◌+◌, ◌-◌, ◌^◌, drop, length, min}
use Rattle.bt_bencode.specs.Bencoding.{ben_all, ben_pairs}
use Rattle.bt_bencode.specs.Views.{trees_of, pairs_of}
use Rattle.bt_bencode.proofs.length.+ben_len.Given as goal

abbrev pub invariant-all_ben_len-loop-value : goal.invariant-all_ben_len-loop-value
invariant-all_ben_len-loop-value l = (l.sum < 2 ^ 64) × (min (l.sum + length (ben_all (trees_of (drop l.value-index l.value-items)))) (2 ^ 64 - 1)
    ≡ min (length (ben_all l.values)) (2 ^ 64 - 1))

abbrev pub invariant-pairs_ben_len-loop-key : goal.invariant-pairs_ben_len-loop-key
invariant-pairs_ben_len-loop-key l = (l.sum < 2 ^ 64) × (min (l.sum + length (ben_pairs (pairs_of (drop l.key-index l.key-items)))) (2 ^ 64 - 1)
    ≡ min (length (ben_pairs l.pairs)) (2 ^ 64 - 1))
