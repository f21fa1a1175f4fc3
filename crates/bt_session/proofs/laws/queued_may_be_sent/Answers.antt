use Rattle.bt_session.proofs.Links as links
use Rattle.bt_session.proofs.laws.queued_may_be_sent.Goals as goal

pub returns : goal.returns
returns c = links.queued_may_be_sent
