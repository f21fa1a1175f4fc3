use Rattle.bt_utp.proofs.ChannelProofs.{other_syn_begins_another}
use Rattle.bt_utp.proofs.laws.other_syn_begins_another.Goals as goal

pub returns : goal.returns
returns c = other_syn_begins_another
