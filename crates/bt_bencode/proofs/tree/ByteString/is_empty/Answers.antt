use Rattle.std.proofs.Common.{rules}
use Rattle.bt_bencode.proofs.tree.ByteString.is_empty.Goals as goal

pub returns : goal.returns
returns c = search rules
