use Rattle.std.proofs.Common.{rules}
use Rattle.bt_text.proofs.script.writing.extended_id.Goals as goal

pub returns-in-Some : goal.returns-in-Some
returns-in-Some c = search rules
