use Rattle.bt_session.proofs.Links.{few_steps_stay_small}
use Rattle.bt_session.proofs.laws.runs_stay_small.Goals as goal

pub returns : goal.returns
returns c = few_steps_stay_small
