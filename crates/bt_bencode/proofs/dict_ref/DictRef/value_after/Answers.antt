use Rattle.std.proofs.Common.{[]}
use Rattle.bt_bencode.specs.Keys.{value_at}
use Rattle.bt_bencode.proofs.Lookups.{pairs_of_spelling, value_found}
use Rattle.bt_bencode.proofs.dict_ref.DictRef.value_after.Goals as goal

pub find-requires : goal.find-requires
find-requires c =
    let p = pairs_of_spelling c.spelled-bytes.result.now c.following.result.now c.args.self.now.tree.0 c.spelled-bytes.ensures c.following.ensures in
    (c.args.self.now.tree.0, [], p.0, p.1)

pub returns : goal.returns
returns c =
    let p = pairs_of_spelling c.spelled-bytes.result.now c.following.result.now c.args.self.now.tree.0 c.spelled-bytes.ensures c.following.ensures in
    let found = c.find.ensures c.args.self.now.tree.0 [] p.0 p.1 in
    record {
      value = found;
      fits = c.spelled-bytes.ensures.fits;
      whole = value_found c.find.result (value_at c.args.key.now c.args.self.now.tree.0) found;
    }
