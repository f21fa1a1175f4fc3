use Rattle.std.proofs.Common.{refl}
use Rattle.bt_text.proofs.ScriptBytes.{no_row, row_given}
use Rattle.bt_text.proofs.script.reading.put_named.Goals as goal

pub returns-in-Some : goal.returns-in-Some
returns-in-Some c = rw (row_given _ c.args.rest.now _ c.in-Some.ensures) c.put_fields.ensures

pub returns-in-None : goal.returns-in-None
returns-in-None c = rw (no_row _ c.in-None.ensures) (refl, refl)
