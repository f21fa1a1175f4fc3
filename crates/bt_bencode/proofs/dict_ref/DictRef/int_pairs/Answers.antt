use Rattle.std.proofs.Common.{[]}
use Rattle.bt_bencode.proofs.Lookups.{pairs_of_spelling, one_pairs}
use Rattle.bt_bencode.proofs.dict_ref.DictRef.int_pairs.Goals as goal

pub invariant_of-result : goal.invariant_of-result
invariant_of-result c =
    let p = pairs_of_spelling c.spelled.result.now c.following.result.now c.args.self.now.tree.0 c.spelled.ensures c.following.ensures in
    ((c.args.self.now.tree.0, record { range = p.0; spelled = ([], p.1) }), tt)

pub returns : goal.returns
returns c =
    let p = pairs_of_spelling c.spelled.result.now c.following.result.now c.args.self.now.tree.0 c.spelled.ensures c.following.ensures in
    one_pairs c.following.result.now c.result-1.given.0.0 c.args.self.now.tree.0 c.result-1.given.0.1 (record { range = p.0; spelled = ([], p.1) })
