use Rattle.std.proofs.Common.{rules}
use Rattle.bt_feed.proofs.feed.Feed.new.Goals as goal

pub returns-in_err-with_capacity-clause-limit : goal.returns-in_err-with_capacity-clause-limit
returns-in_err-with_capacity-clause-limit g c = search rules

pub returns-clause-limit : goal.returns-clause-limit
returns-clause-limit g c = search rules
