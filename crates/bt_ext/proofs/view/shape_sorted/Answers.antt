use Rattle.bt_ext.specs.declared.ids.Rules.TheVariants as rules
use Rattle.bt_ext.proofs.view.shape_sorted.Goals as goal

pub returns-in-Err-shape_plain-clause-err : goal.returns-in-Err-shape_plain-clause-err
returns-in-Err-shape_plain-clause-err c = c.in-Err-shape_plain.ensures.err rules.Bep
