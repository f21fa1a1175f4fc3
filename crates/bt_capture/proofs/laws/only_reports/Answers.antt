use Rattle.bt_capture.proofs.InOrder.{reports_only}
use Rattle.bt_capture.proofs.laws.only_reports.Goals as goal

pub returns : goal.returns
returns c = reports_only
