use Rattle.std.proofs.Common.{true, false}
use Rattle.bt_tcp.proofs.BitProofs.{mask_order, mask_is, masked_in, masked_out}
use Rattle.bt_tcp.proofs.bits.with_bits.Goals as goal

pub overflow_sub-mask : goal.overflow_sub-mask
overflow_sub-mask c = mask_order c.args.from c.args.to c.requires.order c.requires.within

pub returns-then-value-clause-inside : goal.returns-then-value-clause-inside
returns-then-value-clause-inside c i l h =
    let m = mask_is c.args.from c.args.to c.requires.order c.requires.within in
    rw c.if-value.true (masked_in true c.args.byte _ c.args.from c.args.to i m l h)

pub returns-then-value-clause-outside : goal.returns-then-value-clause-outside
returns-then-value-clause-outside c i l o =
    let m = mask_is c.args.from c.args.to c.requires.order c.requires.within in
    masked_out true c.args.byte _ c.args.from c.args.to i m o

pub returns-else-value-clause-inside : goal.returns-else-value-clause-inside
returns-else-value-clause-inside c i l h =
    let m = mask_is c.args.from c.args.to c.requires.order c.requires.within in
    rw c.if-value.false (masked_in false c.args.byte _ c.args.from c.args.to i m l h)

pub returns-else-value-clause-outside : goal.returns-else-value-clause-outside
returns-else-value-clause-outside c i l o =
    let m = mask_is c.args.from c.args.to c.requires.order c.requires.within in
    masked_out false c.args.byte _ c.args.from c.args.to i m o
