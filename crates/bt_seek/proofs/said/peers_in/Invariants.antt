-- The peers so far are those of the values before the rest.
use Rattle.std.proofs.Common.{◌≡◌, ◌++◌, ◌+◌, ◌≤◌, All, length, map}
use Rattle.bt_address.specs.Compact.{compact_of}
use Rattle.bt_bencode.specs.Views.{trees_of}
use Rattle.bt_dht.specs.Messages.{peers_in}
use Rattle.bt_dht.specs.Nodes.{IsPlain}
use Rattle.bt_seek.proofs.said.peers_in.Given as goal

abbrev pub invariant-loop : goal.invariant-loop
invariant-loop l = record {
  told : map compact_of l.peers.items ++ peers_in (trees_of l.rest) ≡ peers_in (trees_of l.values);
  plain : All IsPlain l.peers.items;
  fewer : length l.rest + l.counter ≤ length l.values;
}
