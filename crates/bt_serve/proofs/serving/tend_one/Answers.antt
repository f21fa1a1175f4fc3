use Rattle.std.proofs.Common.{refl}
use Rattle.bt_serve.proofs.serving.tend_one.Goals as goal

pub returns-in-Ok-clause-turned : goal.returns-in-Ok-clause-turned
returns-in-Ok-clause-turned g c = λ start k. (c.in-Ok.ensures.tended start k, refl)
