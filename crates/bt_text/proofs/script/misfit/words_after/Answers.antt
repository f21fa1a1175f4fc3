use Rattle.std.proofs.Common.{sym, ◌∙◌}
use Rattle.bt_text.proofs.Misfits.{hand_completed}
use Rattle.bt_text.proofs.script.misfit.words_after.Goals as goal

pub returns-then-is : goal.returns-then-is
returns-then-is c = rw c.if-not-first.false (hand_completed c.args.name.now (sym c.is.ensures ∙ c.if-is.true))
