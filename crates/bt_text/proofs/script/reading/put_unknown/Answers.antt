use Rattle.std.proofs.Common.{rules}
use Rattle.bt_text.proofs.script.reading.put_unknown.Goals as goal

pub returns-in-Some : goal.returns-in-Some
returns-in-Some c = search rules
