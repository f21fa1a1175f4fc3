use Rattle.bt_utp.proofs.ChannelProofs.{both_sides_found}
use Rattle.bt_utp.proofs.laws.both_sides_are_found.Goals as goal

pub returns : goal.returns
returns c = both_sides_found
