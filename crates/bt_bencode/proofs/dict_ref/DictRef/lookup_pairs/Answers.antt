use Rattle.std.proofs.Common.{rules}
use Rattle.bt_bencode.proofs.dict_ref.DictRef.lookup_pairs.Goals as goal

pub returns-in-Some : goal.returns-in-Some
returns-in-Some c = search rules
