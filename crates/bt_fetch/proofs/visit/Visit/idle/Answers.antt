use Rattle.std.proofs.Common.{refl}
use Rattle.bt_fetch.proofs.Stops.{at_one, no_both, silent_at_one}
use Rattle.bt_fetch.proofs.visit.Visit.idle.Goals as goal

pub returns-then-is_over-clause-ended : goal.returns-then-is_over-clause-ended
returns-then-is_over-clause-ended g c = c.stopped.ensures.ended 0 (at_one c.args.end.now) (at_one c.args.end.now) refl (silent_at_one c.args.end.now)

pub returns-then-is_over-clause-patient : goal.returns-then-is_over-clause-patient
returns-then-is_over-clause-patient g c = λ h. absurd (no_both _ h c.stopped.ensures.none)
