use Rattle.std.proofs.Common.{arith}
use Rattle.bt_ext.proofs.ids.ExtId.new.Goals as goal

pub invariant_of-result : goal.invariant_of-result
invariant_of-result c = omega arith
