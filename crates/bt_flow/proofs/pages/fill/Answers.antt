use Rattle.std.proofs.Common.{arith}
use Rattle.bt_flow.specs.Pages.{cell}
use Rattle.bt_flow.proofs.PageProofs.{front_step, front_none}
use Rattle.bt_flow.proofs.pages.fill.Goals as goal

pub loop-j-init : goal.loop-j-init
loop-j-init c = record {
  long = c.in_ok-lengthen.ensures.long;
  front = front_none (cell c.lengthen.new.page.items) (cell c.args.page.now.items) c.args.from c.args.part.now c.in_ok-lengthen.ensures.cells;
}

pub loop-j-preserved : goal.loop-j-preserved
loop-j-preserved c = record {
  long = omega (arith, c.put.ensures.long, c.loop-j.invariant.long);
  front = front_step (cell c.loop-j.page.items) (cell c.put.new.page.items) (cell c.args.page.now.items) c.args.from c.loop-j.j c.args.part.now
      c.loop-j.invariant.front (omega arith) c.put.ensures.here c.put.ensures.others;
}
