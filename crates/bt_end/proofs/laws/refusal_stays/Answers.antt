use Rattle.bt_end.proofs.Refusals.{refusal_stays}
use Rattle.bt_end.proofs.laws.refusal_stays.Goals as goal

pub returns : goal.returns
returns c = refusal_stays
