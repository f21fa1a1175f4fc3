use Rattle.std.proofs.Common.{sym, ◌∙◌, arith}
use Rattle.bt_wire.proofs.Differing.{shifted_none, same_head, other_head, one_ends}
use Rattle.bt_wire.proofs.handshake.first_difference.Goals as goal

pub loop-i-init : goal.loop-i-init
loop-i-init c = shifted_none _

pub returns-then-fixed-i : goal.returns-then-fixed-i
returns-then-fixed-i c = (sym (other_head c.args.fixed.now c.args.bytes.now c.loop-i.i (omega arith) (omega arith) c.if-fixed-i.true) ∙ c.loop-i.invariant)

pub loop-i-preserved : goal.loop-i-preserved
loop-i-preserved c = sym (same_head c.args.fixed.now c.args.bytes.now c.loop-i.i (omega arith) (omega arith) c.if-fixed-i.false) ∙ c.loop-i.invariant

pub returns : goal.returns
returns c = (sym (one_ends c.args.fixed.now c.args.bytes.now c.loop-i.i c.min-count.result c.min-count.ensures (omega arith)) ∙ c.loop-i.invariant)
