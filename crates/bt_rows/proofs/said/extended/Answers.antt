use Rattle.std.specs.Prelude.{codes}
use Rattle.json.specs.Print.{escape_byte}
use Rattle.bt_rows.proofs.Shown.{two_shown}
use Rattle.bt_rows.proofs.said.extended.Goals as goal

pub returns-in-Raw-clause-fields : goal.returns-in-Raw-clause-fields
unfolding escape_byte
returns-in-Raw-clause-fields c h = rw (c.in-Raw.is, c.from-in-Raw.ensures) (two_shown (codes "extended") (codes "id") (codes "bytes") _ _)
