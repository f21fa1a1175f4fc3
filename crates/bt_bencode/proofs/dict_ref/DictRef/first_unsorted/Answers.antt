use Rattle.std.proofs.Common.{length}
use Rattle.bt_bencode.proofs.Payloads.{whole}
use Rattle.bt_bencode.proofs.dict_ref.DictRef.first_unsorted.Goals as goal

pub first_unsorted-requires : goal.first_unsorted-requires
first_unsorted-requires c = (c.args.self.now.tree.0, length c.spelled.result.now, whole c.spelled.result.now c.args.self.now.tree.0 c.spelled.ensures)

pub returns : goal.returns
returns c = c.first_unsorted.ensures c.args.self.now.tree.0 (length c.spelled.result.now) (whole c.spelled.result.now c.args.self.now.tree.0 c.spelled.ensures)
