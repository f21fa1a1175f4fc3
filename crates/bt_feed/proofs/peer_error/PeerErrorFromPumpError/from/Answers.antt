use Rattle.std.proofs.Common.{rules}
use Rattle.bt_feed.proofs.peer_error.PeerErrorFromPumpError.from.Goals as goal

pub returns-in-ReadFault : goal.returns-in-ReadFault
returns-in-ReadFault c = search rules
