use Rattle.std.proofs.Common.{[], sym, ◌∙◌, append-nil}
use Rattle.bt_bencode.specs.Trees.{dictionary}
use Rattle.bt_bencode.specs.Views.{tree_of}
use Rattle.bt_bencode.specs.declared.tree.Value.TheVariants as value
use Rattle.bt_bencode.specs.Unique.{same_tree}
use Rattle.bt_bencode.proofs.OneTree.{same_value}
use Rattle.bt_bencode.proofs.dict_ref.DictRef.to_value.Goals as goal

pub read_value-requires : goal.read_value-requires
read_value-requires c = (dictionary c.args.self.now.tree.0, [], c.spelled.ensures.fits.in_range, c.spelled.ensures.spelled ∙ sym (append-nil _))

pub returns : goal.returns
returns c =
    let front = c.in_ok-value.ensures in
    let whole = sym front.1 ∙ c.spelled.ensures.spelled ∙ sym (append-nil _) in
    let same = same_tree (tree_of c.in_ok-value.value) (dictionary c.args.self.now.tree.0) c.in_ok-value.field-0-1.now [] front.0
    c.spelled.ensures.fits.in_range whole in
    same_value c.in_ok-value.value (value.Dict c.args.self.now.tree.0) same.0
