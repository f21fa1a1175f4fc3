use Rattle.std.proofs.Common.{rules}
use Rattle.bt_jobs.proofs.printer.Printer.flush.Goals as goal

pub returns-in-Ok-clause-flushed : goal.returns-in-Ok-clause-flushed
returns-in-Ok-clause-flushed g c = search rules
