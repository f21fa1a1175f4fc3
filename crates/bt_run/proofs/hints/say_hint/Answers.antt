use Rattle.std.proofs.Common.{Some}
use Rattle.bt_run.proofs.hints.say_hint.Goals as goal

pub returns-in-Ok-Some : goal.returns-in-Ok-Some
returns-in-Ok-Some g c = (Some c.in-Ok-Some.line.items, rw (c.in-Ok-Some.is, c.in-Ok-Some.field-0-is) at c.hint_text.ensures, rw c.as_slice.ensures.value at c.say.ensures)
