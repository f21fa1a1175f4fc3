use Rattle.std.proofs.Common.{◌+◌, true, ap, arith, rules}
use Rattle.bt_exchange.proofs.Lists.{added_on, added_one}
use Rattle.bt_serve.specs.Doors.{is_served}
use Rattle.bt_serve.specs.declared.door.Parting.{Parting}
use Rattle.bt_serve.proofs.Doors.{more_both, more_one}
use Rattle.bt_serve.proofs.serving.part_all.Goals as goal

pub loop-guest-preserved : goal.loop-guest-preserved
loop-guest-preserved g c = record {
  inside = search rules;
  told = added_on _ _ _ _ _ c.loop-guest.invariant.told
      (added_one _ _ _ _ true c.ended.ensures.told (ap (λ (p : Parting). is_served p.ending) c.parting.ensures));
  more = let h = c.loop-guest.invariant.more in
      (h.0 + 1, search rules, more_both h.0 1 (h.0 + 1) _ _ _ (omega arith) h.2 (more_one _ _ _ c.ended.ensures.told));
  rounds = search rules;
}
