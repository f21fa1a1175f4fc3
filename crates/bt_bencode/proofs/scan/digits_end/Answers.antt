use Rattle.std.proofs.Common.{◌≡◌, ◌+◌, ◌-◌, get_or, length, arith, refl}
use Rattle.bt_bencode.proofs.Reading.{least_left, least_right}
use Rattle.bt_bencode.proofs.Tokens.{digits_start, digits_go_on, digits_plus, digits_minus, digit_more, few_digits}
use Rattle.bt_bencode.proofs.scan.digits_end.Goals as goal

pub returns-then-payload-i-eq101-clause-plus : goal.returns-then-payload-i-eq101-clause-plus
returns-then-payload-i-eq101-clause-plus c = λ stack. digits_plus c.args.payload.now c.args.at (c.args.at + 1) (get_or c.args.payload.now c.args.at 0 - 48)
    (digits_start c.args.payload.now c.args.at (omega arith) (c.if-not-is_digit.ensures.0 refl)) (omega arith) c.if-payload-i-eq101.true stack

pub returns-then-payload-i-eq101-clause-minus : goal.returns-then-payload-i-eq101-clause-minus
returns-then-payload-i-eq101-clause-minus c = λ stack other. digits_minus c.args.payload.now c.args.at (c.args.at + 1)
    (get_or c.args.payload.now c.args.at 0 - 48) (digits_start c.args.payload.now c.args.at (omega arith) (c.if-not-is_digit.ensures.0 refl)) (omega arith)
    c.if-payload-i-eq101.true stack other

pub loop-i-init : goal.loop-i-init
loop-i-init c =
    let one : c.args.at + 1 - c.args.at ≡ 1 = omega arith in
    let digit = c.if-not-is_digit.ensures.0 refl in
    record {
      read = digits_start c.args.payload.now c.args.at (omega arith) digit;
      some = omega arith;
      small = rw one (omega (arith, digit));
    }

pub overflow_mul-n : goal.overflow_mul-n
overflow_mul-n c =
    let room = few_digits c.loop-i.n (c.loop-i.i - c.args.at) c.loop-i.invariant.small
    (omega (arith, least_right (length c.args.payload.now - c.args.at) 15)) in
    omega (arith, room)

pub overflow_add-n : goal.overflow_add-n
overflow_add-n c =
    let room = few_digits c.loop-i.n (c.loop-i.i - c.args.at) c.loop-i.invariant.small
    (omega (arith, least_right (length c.args.payload.now - c.args.at) 15)) in
    let digit = c.if-not-is_digit-2.ensures.0 refl in
    omega (arith, room, digit)

pub loop-i-preserved : goal.loop-i-preserved
loop-i-preserved c =
    let payload = c.args.payload.now in
    let at = c.args.at in
    let i = c.loop-i.i in
    let n = c.loop-i.n in
    let room = few_digits n (i - at) c.loop-i.invariant.small
    (omega (arith, least_right (length c.args.payload.now - c.args.at) 15)) in
    let digit = c.if-not-is_digit-2.ensures.0 refl in
    let longer : i + 1 - at ≡ i - at + 1 = omega (arith, c.loop-i.invariant.read.following) in
    record {
      read = digits_go_on payload at i n c.loop-i.invariant.read (omega (arith, least_left (length c.args.payload.now - c.args.at) 15)) digit
          c.loop-i.invariant.some room;
      some = omega (arith, c.loop-i.invariant.some);
      small = rw longer (digit_more n (i - at) (get_or payload i 0 - 48) c.loop-i.invariant.small (omega (arith, digit)));
    }

pub returns-then-byte-eq101-clause-plus : goal.returns-then-byte-eq101-clause-plus
returns-then-byte-eq101-clause-plus c = λ stack. digits_plus c.args.payload.now c.args.at c.loop-i.i c.loop-i.n c.loop-i.invariant.read
    (omega (arith, least_left (length c.args.payload.now - c.args.at) 15)) c.if-byte-eq101.true stack

pub returns-then-byte-eq101-clause-minus : goal.returns-then-byte-eq101-clause-minus
returns-then-byte-eq101-clause-minus c = λ stack other. digits_minus c.args.payload.now c.args.at c.loop-i.i c.loop-i.n c.loop-i.invariant.read
    (omega (arith, least_left (length c.args.payload.now - c.args.at) 15)) c.if-byte-eq101.true stack other
