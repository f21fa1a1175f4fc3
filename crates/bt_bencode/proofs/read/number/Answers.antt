use Rattle.std.proofs.Common.{arith}
use Rattle.bt_bencode.proofs.Numbers.{number_there, digit_more, digit_goes, number_ended, tail_shorter}
use Rattle.bt_bencode.proofs.read.number.Goals as goal

pub loop-rest-init : goal.loop-rest-init
loop-rest-init c = record { bound = c.requires.begun; more = c.requires.more; same = λ m rest h. h }

pub bounds-rest-0 : goal.bounds-rest-0
bounds-rest-0 c = number_there _ _ _ c.loop-rest.invariant.more

pub overflow_mul-value : goal.overflow_mul-value
overflow_mul-value c = let d = digit_goes _ _ _ c.loop-rest-test.true c.loop-rest.invariant.more in omega (arith, d.1)

pub bounds-rest-0-in-loop-rest : goal.bounds-rest-0-in-loop-rest
bounds-rest-0-in-loop-rest c = number_there _ _ _ c.loop-rest.invariant.more

pub overflow_sub-value : goal.overflow_sub-value
overflow_sub-value c = (digit_goes _ _ _ c.loop-rest-test.true c.loop-rest.invariant.more).0.0

pub overflow_add-value : goal.overflow_add-value
overflow_add-value c = let d = digit_goes _ _ _ c.loop-rest-test.true c.loop-rest.invariant.more in omega (arith, d.1)

pub following-rest-requires : goal.following-rest-requires
following-rest-requires c = number_there _ _ _ c.loop-rest.invariant.more

pub loop-rest-smaller : goal.loop-rest-smaller
loop-rest-smaller c = tail_shorter _ _ (number_there _ _ _ c.loop-rest.invariant.more) c.following-rest.ensures

pub loop-rest-preserved : goal.loop-rest-preserved
loop-rest-preserved c =
    let d = digit_goes _ _ _ c.loop-rest-test.true c.loop-rest.invariant.more in
    rw c.following-rest.ensures (record {
      bound = d.1;
      more = d.2;
      same = λ m rest h. (digit_more _ _ m rest _ c.loop-rest-test.true (c.loop-rest.invariant.same m rest h)).2;
    })

pub returns : goal.returns
returns c = rw c.following.ensures (record {
  value = λ m rest h. number_ended _ _ m rest _ c.requires.end c.loop-rest-test.false
      (c.loop-rest.invariant.same m rest h);
})
