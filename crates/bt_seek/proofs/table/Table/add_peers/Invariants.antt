-- The peers after the addresses so far, and all else as before.
use Rattle.std.proofs.Common.{◌≡◌, take}
use Rattle.bt_seek.specs.Addresses.{found_in}
use Rattle.bt_seek.specs.Tables.{SameButPeers}
use Rattle.bt_seek.proofs.table.Table.add_peers.Given as goal

abbrev pub invariant-loop-address : goal.invariant-loop-address
invariant-loop-address l = record {
  peers : l.self.peers.items ≡ found_in l.fn.self.is_local l.fn.self.peers.items (take l.address-index l.told);
  others : SameButPeers l.fn.self l.self;
}
