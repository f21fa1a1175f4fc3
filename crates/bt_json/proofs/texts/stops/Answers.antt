use Rattle.std.proofs.Common.{arith}
use Rattle.bt_json.proofs.Steps.{stops_mask}
use Rattle.bt_json.proofs.texts.stops.Goals as goal

pub returns : goal.returns
returns c = stops_mask c.args.lanes 32 c.fits-lanes.0 (omega arith)
