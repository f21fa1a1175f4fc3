use Rattle.std.specs.Prelude.{codes}
use Rattle.json.specs.Print.{escape_byte}
use Rattle.std.proofs.Common.{sym}
use Rattle.bt_rows.proofs.Shown.{three_shown}
use Rattle.bt_rows.proofs.said.metadata.Goals as goal

pub returns-in-Data-clause-fields : goal.returns-in-Data-clause-fields
unfolding escape_byte
returns-in-Data-clause-fields c =
    rw (sym c.in-Data.ensures, c.from-in-Data.ensures) (three_shown (codes "metadata-data") (codes "piece") (codes "total_size") (codes "bytes") _ _ _)
