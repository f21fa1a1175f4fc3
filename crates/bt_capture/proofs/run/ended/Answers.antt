use Rattle.std.proofs.Common.{inr}
use Rattle.bt_capture.proofs.run.ended.Goals as goal

pub returns-in-Ok-clause-ended : goal.returns-in-Ok-clause-ended
returns-in-Ok-clause-ended c before seen waits at_end = record { waits = waits; ended = c.in-Ok.ensures.ended; seen = at_end }

pub returns-in-Err-clause-ended : goal.returns-in-Err-clause-ended
returns-in-Err-clause-ended c before seen waits at_end = inr (record { waits = waits; ended = c.in-Err.ensures.ended; seen = at_end })
