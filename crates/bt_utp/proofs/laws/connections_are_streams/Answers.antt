use Rattle.bt_utp.proofs.SideProofs.{connections_are_streams}
use Rattle.bt_utp.proofs.laws.connections_are_streams.Goals as goal

pub returns : goal.returns
returns c = connections_are_streams
