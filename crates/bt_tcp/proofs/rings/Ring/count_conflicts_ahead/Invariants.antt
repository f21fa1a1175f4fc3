use Rattle.std.proofs.Common.{◌≡◌, ◌≤◌, ◌+◌, drop}
use Rattle.bt_tcp.specs.History.{held, conflicts}
use Rattle.bt_tcp.specs.Rings.{ahead}
use Rattle.bt_tcp.proofs.rings.Ring.count_conflicts_ahead.Given as goal

abbrev pub invariant-loop-j : goal.invariant-loop-j
invariant-loop-j l = record {
  bound : l.count ≤ l.j;
  counted : l.count + conflicts (held l.self.next (ahead l.self l.known l.bytes)) (l.at + l.j) (drop l.j l.part) ≡ conflicts (held l.self.next
      (ahead l.self l.known l.bytes)) l.at l.part;
}
