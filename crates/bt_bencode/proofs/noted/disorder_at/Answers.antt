use Rattle.std.proofs.Common.{refl}
use Rattle.bt_bencode.proofs.Stopping.{one_order}
use Rattle.bt_bencode.proofs.noted.disorder_at.Goals as goal

pub returns-in-Ok : goal.returns-in-Ok
returns-in-Ok c = ((c.in-Ok.ensures.ok.0, _, c.in-Ok.ensures.ok.1), one_order c.args.payload.now c.args.left _ c.requires.stops refl)
