use Rattle.bt_loop.proofs.Fetching as fetching
use Rattle.bt_loop.proofs.laws.rounds_are_steps.Goals as goal

pub returns : goal.returns
returns c = fetching.rounds_are_steps
