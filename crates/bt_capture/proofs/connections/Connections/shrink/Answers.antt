use Rattle.std.proofs.Common.{◌∙◌, refl}
use Rattle.std.proofs.lemmas.Result.{err_from_is_err_and}
use Rattle.bt_capture.proofs.connections.Connections.shrink.Goals as goal

pub oldest-init : goal.oldest-init
oldest-init c = record {
  told = λ start now clock came there packet within i. i;
  asked = refl;
  counted = λ i. i;
}

pub oldest-preserved : goal.oldest-preserved
oldest-preserved c = record {
  told = λ start now clock came there packet within i. c.in_ok-end_oldest.ensures.goes start now clock came there packet within
      (c.oldest.invariant.told start now clock came there packet within i);
  asked = c.in_ok-end_oldest.ensures.asked ∙ c.oldest.invariant.asked;
  counted = λ i. c.in_ok-end_oldest.ensures.counted (c.oldest.invariant.counted i);
}

pub returns-in_err-end_oldest-clause-goes : goal.returns-in_err-end_oldest-clause-goes
returns-in_err-end_oldest-clause-goes c start now clock came there packet within i =
    let stop = err_from_is_err_and c.from_residual.result c.from_residual.ensures.1 in
    rw stop.1 (c.in_err-end_oldest.ensures.goes start now clock came there packet within (c.oldest.invariant.told start now clock came there packet within i))

pub returns-else-len-gt0-clause-goes : goal.returns-else-len-gt0-clause-goes
returns-else-len-gt0-clause-goes c start now clock came there packet within i = c.oldest.invariant.told start now clock came there packet within i

pub returns-after-oldest-clause-goes : goal.returns-after-oldest-clause-goes
returns-after-oldest-clause-goes c start now clock came there packet within i = c.oldest.invariant.told start now clock came there packet within i
