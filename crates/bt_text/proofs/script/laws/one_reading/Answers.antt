use Rattle.bt_text.proofs.ScriptLines.{one_reading}
use Rattle.bt_text.proofs.script.laws.one_reading.Goals as goal

pub returns : goal.returns
returns c = one_reading
