use Rattle.bt_capture.proofs.Linked.{apart_by_link}
use Rattle.bt_capture.proofs.laws.only_one_link.Goals as goal

pub returns : goal.returns
returns c = apart_by_link
