use Rattle.bt_text.proofs.ScriptBounds.{handshake_fits}
use Rattle.bt_text.proofs.script.laws.handshake_fits.Goals as goal

pub returns : goal.returns
returns c = λ own h is. handshake_fits h is
