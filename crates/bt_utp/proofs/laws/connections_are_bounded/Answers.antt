use Rattle.bt_utp.proofs.ChannelProofs.{connections_bounded}
use Rattle.bt_utp.proofs.laws.connections_are_bounded.Goals as goal

pub returns : goal.returns
returns c = connections_bounded
