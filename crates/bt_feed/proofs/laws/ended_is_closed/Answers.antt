use Rattle.bt_wire.proofs.Closed.{closed_more}
use Rattle.bt_feed.proofs.FeedLaws.{ended_closed}
use Rattle.bt_feed.proofs.laws.ended_is_closed.Goals as goal

pub returns-clause-ended : goal.returns-clause-ended
returns-clause-ended c = ended_closed

pub returns-clause-stays : goal.returns-clause-stays
returns-clause-stays c = closed_more
