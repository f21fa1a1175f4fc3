use Rattle.std.proofs.Common.{rules}
use Rattle.bt_io.proofs.outbox.make_room.Goals as goal

pub returns-then-n-size-3-clause-bytes : goal.returns-then-n-size-3-clause-bytes
returns-then-n-size-3-clause-bytes g c = search rules
