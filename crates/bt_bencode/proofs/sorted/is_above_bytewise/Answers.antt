use Rattle.std.proofs.Common.{arith}
use Rattle.bt_bencode.proofs.Wording.{byte_decides, lengths_decide}
use Rattle.bt_bencode.proofs.sorted.is_above_bytewise.Goals as goal

pub returns-then-a-b : goal.returns-then-a-b
returns-then-a-b c = byte_decides c.loop-at.at c.args.last.now c.args.key.now c.loop-at.invariant.same
    (omega (arith, c.loop-at-test.true, c.shared_len-shared.ensures)) (omega (arith, c.loop-at-test.true, c.shared_len-shared.ensures)) c.if-a-b.true

pub returns : goal.returns
returns c = lengths_decide c.loop-at.at c.args.last.now c.args.key.now c.loop-at.invariant.same
    (omega (arith, c.loop-at-test.false, c.shared_len-shared.ensures))
