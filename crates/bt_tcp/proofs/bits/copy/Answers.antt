use Rattle.bt_tcp.proofs.BitProofs.{copied_more, copied_none}
use Rattle.std.proofs.Common.{◌-◌, ◌+◌, arith}
use Rattle.bt_tcp.proofs.bits.copy.Goals as goal

pub loop-k-preserved : goal.loop-k-preserved
loop-k-preserved c = record {
  within = omega (arith, c.end_of_step.ensures.to);
  copied = copied_more c.args.bits.now c.args.from c.loop-k.k (c.end_of_step.result - c.args.from) c.args.to.now c.args.at
      c.loop-k.to c.fill.new.bits c.get-value.result
      (omega (arith, c.end_of_step.ensures.from)) c.loop-k.invariant.copied
      (λ k a b. c.end_of_step.ensures.same (c.args.from + k) (omega arith) (omega arith)) c.fill.ensures;
}

pub loop-k-init : goal.loop-k-init
loop-k-init c = record { within = omega arith; copied = copied_none c.args.bits.now c.args.from c.args.to.now c.args.at }
