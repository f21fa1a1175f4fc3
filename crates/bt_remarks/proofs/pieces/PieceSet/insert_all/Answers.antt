use Rattle.std.proofs.Common.{arith, length-take}
use Rattle.bt_remarks.proofs.SetProofs.{stepped}
use Rattle.bt_remarks.proofs.pieces.PieceSet.insert_all.Goals as goal

pub loop-i-preserved : goal.loop-i-preserved
loop-i-preserved c = record {
  room = c.loop-i.invariant.room;
  bits = λ k.
      stepped c.loop-i.self.field.items c.args.field.now c.grow.new.self.field.items c.loop-i.i c.min-len.result k c.index_mut.result.now
      c.loop-i-test.true (omega (arith, c.loop-i-test.true, c.loop-i.invariant.room, length-take c.min-len.result c.args.field.now))
      c.index_mut.ensures.value (c.loop-i.invariant.bits k);
}
