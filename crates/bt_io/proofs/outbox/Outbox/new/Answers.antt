use Rattle.std.proofs.Common.{rules}
use Rattle.bt_io.proofs.outbox.Outbox.new.Goals as goal

pub returns : goal.returns
returns g c = search rules
