use Rattle.bt_bencode.specs.Views.{tree_of}
use Rattle.bt_ext.proofs.Sorted.{unsorted_test}
use Rattle.bt_ext.proofs.spelling.is_unsorted.Goals as goal

pub returns : goal.returns
returns c = unsorted_test c.is_sorted.result (tree_of c.args.dict.now) c.is_sorted.ensures
