use Rattle.std.proofs.Common.{refl, rules}
use Rattle.bt_exchange.proofs.Lists.{added_on, added_same}
use Rattle.bt_serve.proofs.Doors.{more_on}
use Rattle.bt_serve.proofs.serving.tend_all.Goals as goal

pub loop-preserved : goal.loop-preserved
loop-preserved g c = record {
  inside = search rules;
  told = added_on _ _ _ _ _ c.loop.invariant.told
      (added_on _ _ _ _ _ (added_same _ _ _ c.due.ensures.told) c.visit_at-pace.ensures.told);
  ended = search rules;
  more = more_on _ _ _ _ _ _ _ _ (search rules) c.loop.invariant.more c.due.ensures.told c.visit_at-pace.ensures.more refl;
  rounds = search rules;
}
