-- What is left is sorted exactly if the whole is.
use Rattle.std.proofs.Common.{◌↔◌, drop, None}
use Rattle.std.specs.Option.{option_copied}
use Rattle.bt_bencode.specs.Keys.{AllAreSorted, PairsAreSorted}
use Rattle.bt_bencode.specs.Views.{trees_of, pairs_of}
use Rattle.bt_bencode.proofs.sorted.+is_sorted.Given as goal

abbrev pub invariant-all_are_sorted-loop-value : goal.invariant-all_are_sorted-loop-value
invariant-all_are_sorted-loop-value l = AllAreSorted (trees_of (drop l.value-index l.value-items)) ↔ AllAreSorted l.values

abbrev pub invariant-pairs_are_sorted-loop-key : goal.invariant-pairs_are_sorted-loop-key
invariant-pairs_are_sorted-loop-key l = PairsAreSorted (option_copied l.last) (pairs_of (drop l.key-index l.key-items)) ↔ PairsAreSorted None l.pairs
