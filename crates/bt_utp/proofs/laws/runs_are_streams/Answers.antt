use Rattle.bt_utp.proofs.SideProofs.{runs_are_streams}
use Rattle.bt_utp.proofs.laws.runs_are_streams.Goals as goal

pub returns : goal.returns
returns c = runs_are_streams
