use Rattle.std.proofs.Common.{rules}
use Rattle.bt_bencode.proofs.tree.ByteString.as_slice.Goals as goal

pub returns : goal.returns
returns c = search rules
