use Rattle.bt_utp.specs.Flows.{flows}
use Rattle.bt_capture.proofs.FlowLines.{none_yet}
use Rattle.bt_capture.proofs.utp.flow_lines.Goals as goal

pub loop-place-init : goal.loop-place-init
loop-place-init c = record { lines = λ ds are. none_yet c.args.json (flows ds) _ c.new-text.ensures.bytes }
