use Rattle.bt_remarks.proofs.LawProofs.{pending_is}
use Rattle.bt_remarks.proofs.laws.pending_is_unanswered.Goals as goal

pub returns : goal.returns
returns c = pending_is
