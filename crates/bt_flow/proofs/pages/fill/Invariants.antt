use Rattle.std.proofs.Common.{◌≤◌, length}
use Rattle.bt_tcp.proofs.Bytes.{HasFront}
use Rattle.bt_flow.specs.Pages.{cell}
use Rattle.bt_flow.proofs.pages.fill.Given as goal

abbrev pub invariant-loop-j : goal.invariant-loop-j
invariant-loop-j l = record {
  long : 64 ≤ length l.page.items;
  front : HasFront (cell l.page.items) (cell l.fn.page.items) l.from l.j l.part;
}
