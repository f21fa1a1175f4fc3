-- What is left fits exactly if the whole does.
use Rattle.std.proofs.Common.{◌↔◌, drop}
use Rattle.bt_bencode.specs.Room.{AllFitIn, PairsFitIn}
use Rattle.bt_bencode.specs.Views.{trees_of, pairs_of}
use Rattle.bt_bencode.proofs.fitting.+fits.Given as goal

abbrev pub invariant-all_fit_in-loop-value : goal.invariant-all_fit_in-loop-value
invariant-all_fit_in-loop-value l = AllFitIn l.room (trees_of (drop l.value-index l.value-items)) ↔ AllFitIn l.room l.values

abbrev pub invariant-pairs_fit_in-loop-key : goal.invariant-pairs_fit_in-loop-key
invariant-pairs_fit_in-loop-key l = PairsFitIn l.room (pairs_of (drop l.key-index l.key-items)) ↔ PairsFitIn l.room l.pairs
