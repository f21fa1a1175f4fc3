use Rattle.std.proofs.Common.{rules}
use Rattle.bt_bencode.proofs.scan.string_len.Goals as goal

pub returns-else-n-digit : goal.returns-else-n-digit
returns-else-n-digit c = search rules
