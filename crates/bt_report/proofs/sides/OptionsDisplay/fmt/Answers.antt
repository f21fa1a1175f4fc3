use Rattle.std.proofs.Common.{refl}
use Rattle.std.proofs.Output.{has_written_of_eq}
use Rattle.bt_report.proofs.sides.OptionsDisplay.fmt.Goals as goal

pub returns-clause-writes : goal.returns-clause-writes
returns-clause-writes g c plain ok =
    has_written_of_eq _ _ _ _ _
    (rw (
      c.guess-guess.ensures,
      c.count_of.ensures,
      c.number_of-2.ensures,
      c.donthave.ensures,
      c.unwrap_or-metadata.ensures,
      c.number_of.ensures,
      c.metadata.ensures,
    ) refl)
    (c.write.ensures.writes plain ok)
