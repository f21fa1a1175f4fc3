use Rattle.std.proofs.Common.{rules}
use Rattle.bt_feed.proofs.feed.Feed.number.Goals as goal

pub returns-clause-value : goal.returns-clause-value
returns-clause-value g c = search rules
