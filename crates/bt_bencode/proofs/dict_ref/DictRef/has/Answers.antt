use Rattle.std.proofs.Common.{rules}
use Rattle.bt_bencode.proofs.dict_ref.DictRef.has.Goals as goal

pub returns : goal.returns
returns c = search rules
