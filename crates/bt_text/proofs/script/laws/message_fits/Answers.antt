use Rattle.bt_text.proofs.ScriptBounds.{message_fits}
use Rattle.bt_text.proofs.script.laws.message_fits.Goals as goal

pub returns : goal.returns
returns c = message_fits
