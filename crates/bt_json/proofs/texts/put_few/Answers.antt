use Rattle.std.proofs.Common.{arith}
use Rattle.bt_json.proofs.EscapeLaws.{put_more}
use Rattle.bt_json.proofs.texts.put_few.Goals as goal

pub loop-taken-preserved : goal.loop-taken-preserved
loop-taken-preserved c =
    let of = c.escape_of-more in
    let fits = c.put_word.ensures in
    record {
      within = (omega arith, omega arith);
      room = (omega (arith, of.ensures.bound, c.loop-taken.invariant.room.0), omega (arith, fits.size, c.loop-taken.invariant.room.1));
      put = put_more c.put_word.new.text c.loop-taken.text of.result.0 c.args.bytes.now c.put_word.result c.loop-taken.size of.result.1 c.loop-taken.taken
          fits.room
          (omega (arith, c.loop-taken.invariant.room.0, c.loop-taken.invariant.room.1, c.loop-taken.invariant.within.0)) (omega (arith, of.ensures.bound))
          fits.text c.loop-taken.invariant.put (omega arith) of.ensures.value;
    }
