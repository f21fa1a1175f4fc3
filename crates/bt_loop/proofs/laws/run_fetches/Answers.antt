use Rattle.bt_loop.proofs.Fetching as fetching
use Rattle.bt_loop.proofs.laws.run_fetches.Goals as goal

pub returns : goal.returns
returns c = fetching.run_fetches
