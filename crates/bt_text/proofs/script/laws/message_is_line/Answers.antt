use Rattle.bt_text.proofs.ScriptSpoken.{message_line}
use Rattle.bt_text.proofs.script.laws.message_is_line.Goals as goal

pub returns : goal.returns
returns c = message_line
