use Rattle.bt_session.proofs.Links.{outcomes_are_one}
use Rattle.bt_session.proofs.laws.one_outcome.Goals as goal

pub returns : goal.returns
returns c = outcomes_are_one
