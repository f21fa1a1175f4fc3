use Rattle.bt_wire.proofs.WindowLaws.{fault-spell, one_fault, window_read}
use Rattle.bt_wire.proofs.laws.legal_or_fault.Goals as goal

pub returns-clause-legal : goal.returns-clause-legal
returns-clause-legal c = fault-spell

pub returns-clause-faultless : goal.returns-clause-faultless
returns-clause-faultless c = window_read

pub returns-clause-one : goal.returns-clause-one
returns-clause-one c = one_fault
