use Rattle.bt_text.proofs.ScriptSpoken.{handshake_line}
use Rattle.bt_text.proofs.script.laws.handshake_is_line.Goals as goal

pub returns : goal.returns
returns c = λ own h is fits. handshake_line h is fits
