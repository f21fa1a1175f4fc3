use Rattle.std.proofs.Common.{rules}
use Rattle.bt_feed.proofs.discard.DiscardSink.item.Goals as goal

pub returns-clause-items : goal.returns-clause-items
returns-clause-items c = search rules

pub returns-clause-failed : goal.returns-clause-failed
returns-clause-failed c = search rules
