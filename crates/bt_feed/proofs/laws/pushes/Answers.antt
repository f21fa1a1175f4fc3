use Rattle.bt_feed.proofs.FeedLaws.{least_taken, pushes_join}
use Rattle.bt_feed.proofs.laws.pushes.Goals as goal

pub returns-clause-least : goal.returns-clause-least
returns-clause-least c = least_taken

pub returns-clause-join : goal.returns-clause-join
returns-clause-join c = pushes_join
