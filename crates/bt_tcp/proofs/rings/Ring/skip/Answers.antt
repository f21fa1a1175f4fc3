use Rattle.std.proofs.Common.{refl, arith}
use Rattle.bt_tcp.specs.Rings.{ahead}
use Rattle.bt_tcp.proofs.RingProofs.{moved-over}
use Rattle.bt_tcp.proofs.Taken.{taken_skip}
use Rattle.bt_tcp.proofs.rings.Ring.skip.Goals as goal

pub returns-clause-sound : goal.returns-clause-sound
returns-clause-sound c = record {
  fits = record { inside = omega (arith, c.advanced-self.ensures.inside, c.requires.sound.fits.same); same = c.requires.sound.fits.same };
  over = moved-over c.args.self.now.next c.args.n c.args.known.now c.args.known.now c.args.bytes.now c.args.self.now.head c.advanced-self.result
      c.args.self.now.end (c.advanced-self.ensures.moved c.args.bytes.now) c.requires.sound.over;
}

pub returns-clause-taken : goal.returns-clause-taken
returns-clause-taken c = λ segs base out fill e t. taken_skip segs base out fill c.args.n c.args.self.now.next
    (ahead c.args.self.now c.args.known.now c.args.bytes.now) _ _
    (record { next_is = refl; none = c.requires.none; rest = c.advanced-self.ensures.moved c.args.bytes.now }) e t
