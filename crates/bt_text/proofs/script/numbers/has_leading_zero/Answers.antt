use Rattle.std.proofs.Common.{rules}
use Rattle.bt_text.proofs.script.numbers.has_leading_zero.Goals as goal

pub returns-then-word-gt1 : goal.returns-then-word-gt1
returns-then-word-gt1 c = search rules
