use Rattle.std.proofs.Common.{refl}
use Rattle.bt_capture.specs.Unread.{ether_types, link_types}
use Rattle.bt_capture.proofs.unread.UnreadPackets.new.Goals as goal

pub returns : goal.returns
unfolding link_types ether_types
returns c = rw c.new.ensures (rw c.new-2.ensures refl)
