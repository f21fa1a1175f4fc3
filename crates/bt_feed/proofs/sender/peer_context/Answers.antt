use Rattle.std.proofs.Common.{rules}
use Rattle.bt_feed.proofs.sender.peer_context.Goals as goal

pub returns : goal.returns
returns g c = search rules
