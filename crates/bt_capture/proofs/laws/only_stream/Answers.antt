use Rattle.bt_capture.proofs.Outcomes.{stream_only}
use Rattle.bt_capture.proofs.laws.only_stream.Goals as goal

pub returns : goal.returns
returns c = stream_only
