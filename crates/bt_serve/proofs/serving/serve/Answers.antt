use Rattle.bt_serve.proofs.Doors.{enough_all, within_all}
use Rattle.bt_serve.proofs.LastTold.{of_all}
use Rattle.bt_serve.proofs.serving.serve.Goals as goal

pub returns-clause-told : goal.returns-clause-told
returns-clause-told g c = of_all _ _ _ _ _ c.serve_all-served.ensures.told c.part_all.ensures.told c.part_all.ensures.more

pub returns-clause-within : goal.returns-clause-within
returns-clause-within g c = within_all _ _ _ _ _ c.serve_all-served.ensures.within c.part_all.ensures.more
