use Rattle.std.proofs.Common.{◌≡◌, ◌≤◌, drop}
use Rattle.bt_tcp.specs.Covered.{gaps_between, no_gaps}
use Rattle.bt_tcp.proofs.covered.Spans.gaps.Given as goal

abbrev pub invariant-loop-span : goal.invariant-loop-span
invariant-loop-span l = record {
  below : l.found.sum ≤ l.at;
  counted : l.found.count ≤ l.found.sum;
  found : gaps_between l.found l.at (drop l.span-index l.span-items) l.sent ≡ gaps_between no_gaps l.next l.span-items l.sent;
}
