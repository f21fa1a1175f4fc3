use Rattle.std.proofs.Common.{arith, rules}
use Rattle.bt_wire.proofs.WindowLaws.{too_long}
use Rattle.bt_wire.proofs.encoding.legal_length.Goals as goal

pub returns-then-length-from-clause-fault : goal.returns-then-length-from-clause-fault
returns-then-length-from-clause-fault c = too_long _ _ _ c.in-Some.ensures.0 (omega (arith, c.in-Some.ensures.1))

pub returns-in-None-clause-length : goal.returns-in-None-clause-length
returns-in-None-clause-length c = search rules
