use Rattle.bt_end.proofs.Reactions.{done_stays}
use Rattle.bt_end.proofs.laws.done_stays.Goals as goal

pub returns : goal.returns
returns c = done_stays
