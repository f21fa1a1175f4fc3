use Rattle.bt_end.proofs.Finishing.{fetched_is_finished}
use Rattle.bt_end.proofs.laws.fetched_is_finished.Goals as goal

pub returns : goal.returns
returns c = fetched_is_finished
