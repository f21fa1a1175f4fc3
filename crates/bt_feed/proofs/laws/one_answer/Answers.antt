use Rattle.bt_feed.proofs.FeedLaws.{answer_only}
use Rattle.bt_feed.proofs.laws.one_answer.Goals as goal

pub returns : goal.returns
returns c = answer_only
