use Rattle.std.proofs.Common.{arith}
use Rattle.bt_bencode.proofs.Tokens.{read_on}
use Rattle.bt_bencode.specs.declared.scan.Expect.TheVariants as expect
use Rattle.bt_bencode.proofs.scan.items_end.Goals as goal

pub loop-end-preserved : goal.loop-end-preserved
loop-end-preserved c = record {
  after = omega (arith, c.in-Some.ensures.within, c.loop-end.invariant.after);
  within = omega (arith, c.in-Some.ensures.within);
  read = read_on c.args.payload.now c.loop-end.at c.in-Some.end expect.Item expect.Item c.loop-end.stack c.item_end.new.stack
      (omega (arith, c.in-Some.ensures.within)) c.loop-end.invariant.read c.in-Some.ensures.item;
}
