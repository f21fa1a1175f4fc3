use Rattle.std.proofs.Common.{◌≡◌, ◌≤◌, ◌+◌, drop}
use Rattle.bt_tcp.specs.History.{held, conflicts}
use Rattle.bt_flow.specs.Wide.{next_of, seen}
use Rattle.bt_flow.proofs.wide.WideWindow.count_each.Given as goal

abbrev pub invariant-loop-j : goal.invariant-loop-j
invariant-loop-j l = record {
  bound : l.count ≤ l.j;
  counted : l.count + conflicts (held (next_of l.self) (seen l.self)) (l.at + l.j) (drop l.j l.part) ≡ conflicts (held (next_of l.self) (seen l.self)) l.at l.part;
}
