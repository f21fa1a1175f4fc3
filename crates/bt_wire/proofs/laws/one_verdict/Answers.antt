use Rattle.bt_wire.proofs.VerdictLaws.{verdict_only, verdict_stays, verdict_items}
use Rattle.bt_wire.proofs.laws.one_verdict.Goals as goal

pub returns-clause-one : goal.returns-clause-one
returns-clause-one c = verdict_only

pub returns-clause-refused : goal.returns-clause-refused
returns-clause-refused c = verdict_stays

pub returns-clause-items : goal.returns-clause-items
returns-clause-items c = verdict_items
