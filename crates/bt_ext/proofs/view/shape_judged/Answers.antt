use Rattle.std.proofs.Common.{sym, ◌∙◌}
use Rattle.bt_ext.proofs.KnownDict.{dict_there}
use Rattle.bt_ext.proofs.view.shape_judged.Goals as goal

pub split_known-requires : goal.split_known-requires
split_known-requires c =
    let h = dict_there _ c.requires.0 _ _ _ (sym c.needs_dict.ensures ∙ c.if-needs_dict.true) c.requires.1 c.requires.2 in
    record { within = h.within; spelled = h.spelled }
