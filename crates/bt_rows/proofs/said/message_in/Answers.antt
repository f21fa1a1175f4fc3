use Rattle.std.specs.Prelude.{codes}
use Rattle.json.specs.Print.{escape_byte}
use Rattle.bt_rows.proofs.Shown.{two_shown}
use Rattle.bt_rows.proofs.said.message_in.Goals as goal

pub returns-in-Unknown-clause-fields : goal.returns-in-Unknown-clause-fields
unfolding escape_byte
returns-in-Unknown-clause-fields c own h = rw (c.in-Unknown.is, c.from-in-Unknown.ensures) (two_shown (codes "unknown") (codes "id") (codes "bytes") _ _)
