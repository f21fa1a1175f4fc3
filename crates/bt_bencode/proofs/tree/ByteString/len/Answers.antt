use Rattle.std.proofs.Common.{rules}
use Rattle.bt_bencode.proofs.tree.ByteString.len.Goals as goal

pub returns-clause-value : goal.returns-clause-value
returns-clause-value c = search rules
