use Rattle.std.proofs.Common.{rules}
use Rattle.bt_feed.proofs.progress.append_up_to.Goals as goal

pub returns-clause-count : goal.returns-clause-count
returns-clause-count g c = search rules
