use Rattle.std.proofs.Common.{arith}
use Rattle.std.proofs.lemmas.Grind.{common_steps}
use Rattle.bt_end.proofs.reactor.Reactor.announce.Goals as goal

pub returns-in-All : goal.returns-in-All
returns-in-All g c = grind (arith, common_steps)
