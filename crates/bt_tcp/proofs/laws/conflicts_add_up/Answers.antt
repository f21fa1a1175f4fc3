use Rattle.bt_tcp.proofs.HistoryProofs.{conflicts_add_up}
use Rattle.bt_tcp.proofs.laws.conflicts_add_up.Goals as goal

pub returns : goal.returns
returns c = conflicts_add_up
