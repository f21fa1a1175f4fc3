use Rattle.bt_wire.proofs.ContextLaws as laws
use Rattle.bt_wire.proofs.laws.legal_elsewhere.Goals as goal

pub returns-clause-stays : goal.returns-clause-stays
returns-clause-stays c = laws.legal_elsewhere

pub returns-clause-apart : goal.returns-clause-apart
returns-clause-apart c = laws.legal_is_not_refused

pub returns-clause-one : goal.returns-clause-one
returns-clause-one c = laws.refusal_is_one
