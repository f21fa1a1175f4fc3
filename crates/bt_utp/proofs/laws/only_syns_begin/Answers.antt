use Rattle.bt_utp.proofs.ChannelProofs.{only_syns_begin}
use Rattle.bt_utp.proofs.laws.only_syns_begin.Goals as goal

pub returns : goal.returns
returns c = only_syns_begin
