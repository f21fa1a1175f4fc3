use Rattle.std.proofs.Common.{refl, rules}
use Rattle.bt_serve.proofs.Doors.{more_after}
use Rattle.bt_serve.proofs.LastTold.{of_after}
use Rattle.bt_serve.proofs.serving.let_in.Goals as goal

pub returns-then-is_err-clause-unserved : goal.returns-then-is_err-clause-unserved
returns-then-is_err-clause-unserved g c = of_after _ _ _ _ _ c.enter.ensures.told c.ended-then-is_err.ensures.told refl

pub returns-then-is_err-clause-left : goal.returns-then-is_err-clause-left
returns-then-is_err-clause-left g c =
    (search rules, search rules, more_after _ _ _ _ c.enter.ensures.told c.ended-then-is_err.ensures.told)
