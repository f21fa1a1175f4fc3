use Rattle.bt_utp.proofs.ChannelProofs.{each_on_its_channel}
use Rattle.bt_utp.proofs.laws.each_is_on_its_channel.Goals as goal

pub returns : goal.returns
returns c = each_on_its_channel
