use Rattle.std.proofs.Common.{arith, rules}
use Rattle.bt_dht.proofs.Distances.{all_set, length_set, one_set}
use Rattle.bt_dht.proofs.near.distance.Goals as goal

pub loop-i-preserved : goal.loop-i-preserved
loop-i-preserved c = (length_set _ _ _ c.loop-i.invariant.0, one_set _ _ _ _ (omega arith) c.loop-i.invariant.1)

pub returns : goal.returns
returns c = all_set _ _ _ c.loop-i.invariant.0 (search rules) (search rules) (λ k h. c.loop-i.invariant.1 k (omega (arith, h)))
