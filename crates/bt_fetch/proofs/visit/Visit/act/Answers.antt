use Rattle.std.proofs.Common.{refl}
use Rattle.bt_fetch.proofs.Stops.{at_one, silent_at_one}
use Rattle.bt_fetch.proofs.visit.Visit.act.Goals as goal

pub returns-in-None-clause-ended : goal.returns-in-None-clause-ended
returns-in-None-clause-ended g c = c.stopped.ensures.ended 0 (at_one c.heed.new.end) (at_one c.heed.new.end) refl (silent_at_one c.heed.new.end)
