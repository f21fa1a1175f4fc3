use Rattle.std.proofs.Common.{refl, arith}
use Rattle.bt_loop.proofs.Passing.{filling_more}
use Rattle.bt_loop.proofs.both.fill.Goals as goal

pub calls-preserved : goal.calls-preserved
calls-preserved g c = record {
  filling = filling_more _ c.receive.new.into _ _ c.calls.invariant.filling (omega (arith, c.in-Ok.n-is)) c.in-Ok.ensures.bytes c.in-Ok.ensures.counts refl;
  size = search (arith, c.receive.ensures.size, c.calls.invariant.size, c.calls-test.true);
}
