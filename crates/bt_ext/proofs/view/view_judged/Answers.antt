use Rattle.bt_ext.proofs.OneExt.{same_ext}
use Rattle.bt_ext.proofs.view.view_judged.Goals as goal

pub returns : goal.returns
returns c = λ e h. same_ext _ _ e _ _ c.shape_judged.ensures h
