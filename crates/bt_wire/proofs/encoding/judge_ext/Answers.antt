use Rattle.bt_wire.proofs.ValueLaws.{index_judged, reason_judged}
use Rattle.bt_wire.proofs.encoding.judge_ext.Goals as goal

pub returns-in-None : goal.returns-in-None
returns-in-None c = index_judged c.args.context.now c.args.value.now _ c.in-None.ensures c.judge_index.ensures

pub returns-in-Some : goal.returns-in-Some
returns-in-Some c = reason_judged c.args.context.now c.args.value.now c.in-Some.reason _ c.in-Some.ensures c.reason_from.ensures
