use Rattle.std.proofs.Common.{refl, sym, ◌∙◌}
use Rattle.bt_text.proofs.Misfits.{alive_completed, unknown_completed, row_completed}
use Rattle.bt_text.proofs.script.misfit.words_of_message.Goals as goal

pub returns-then-is : goal.returns-then-is
returns-then-is c = alive_completed c.args.name.now (sym c.is.ensures ∙ c.if-is.true)

pub returns-then-is-2 : goal.returns-then-is-2
returns-then-is-2 c = unknown_completed c.args.name.now (sym c.is-2.ensures ∙ c.if-is-2.true)

pub returns : goal.returns
returns c = rw c.words_of_shape.ensures (row_completed c.args.name.now _ (c.in_ok-shape.field-0-0, c.in_ok-shape.shape) refl c.in_ok-shape.ensures)
