use Rattle.std.proofs.Common.{rules}
use Rattle.bt_feed.proofs.feed.Feed.new_at.Goals as goal

pub returns-clause-ok : goal.returns-clause-ok
returns-clause-ok g c = search rules
