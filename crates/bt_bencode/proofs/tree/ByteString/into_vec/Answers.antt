use Rattle.std.proofs.Common.{rules}
use Rattle.bt_bencode.proofs.tree.ByteString.into_vec.Goals as goal

pub returns : goal.returns
returns c = search rules
