use Rattle.std.proofs.Common.{arith}
use Rattle.std.proofs.lemmas.Grind.{common_steps}
use Rattle.bt_ext.proofs.told.tell.Goals as goal

pub returns-in_ok-push-in-Some-clause-entries : goal.returns-in_ok-push-in-Some-clause-entries
returns-in_ok-push-in-Some-clause-entries g c = grind (arith, common_steps)
