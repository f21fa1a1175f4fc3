use Rattle.std.proofs.Common.{rules}
use Rattle.bt_jobs.proofs.printer.PrinterSink.item.Goals as goal

pub returns-in-Ok-clause-items : goal.returns-in-Ok-clause-items
returns-in-Ok-clause-items c = search rules
