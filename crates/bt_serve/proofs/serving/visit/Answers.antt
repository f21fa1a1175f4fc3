use Rattle.bt_serve.proofs.serving.visit.Goals as goal

pub returns-clause-turned : goal.returns-clause-turned
returns-clause-turned g c = λ start k. rw c.tell_handled.ensures.told (c.tend_one-pace.ensures.turned start k)
