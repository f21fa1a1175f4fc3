use Rattle.bt_utp.proofs.ChannelProofs.{syn_again_begins_none}
use Rattle.bt_utp.proofs.laws.syn_again_begins_none.Goals as goal

pub returns : goal.returns
returns c = syn_again_begins_none
