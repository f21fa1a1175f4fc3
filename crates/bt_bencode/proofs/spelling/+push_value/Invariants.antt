-- What is written so far, and the spelling of what is left.
use Rattle.std.proofs.Common.{◌≡◌, ◌++◌, ◌∷◌, [], drop}
use Rattle.bt_bencode.specs.Bencoding.{ben_all, ben_pairs}
use Rattle.bt_bencode.specs.Views.{trees_of, pairs_of}
use Rattle.bt_bencode.proofs.spelling.+push_value.Given as goal

abbrev pub invariant-push_list-loop-value : goal.invariant-push_list-loop-value
invariant-push_list-loop-value l = l.out.items ++ ben_all (trees_of (drop l.value-index l.value-items)) ≡ (l.fn.out.items ++ 108 ∷ []) ++ ben_all l.values

abbrev pub invariant-push_dict-loop-key : goal.invariant-push_dict-loop-key
invariant-push_dict-loop-key l = l.out.items ++ ben_pairs (pairs_of (drop l.key-index l.key-items)) ≡ (l.fn.out.items ++ 100 ∷ []) ++ ben_pairs l.pairs
