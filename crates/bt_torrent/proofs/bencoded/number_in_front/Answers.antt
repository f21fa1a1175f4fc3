use Rattle.std.proofs.Common.{arith, refl, drop}
use Rattle.bt_bencode.proofs.Passing.{number_begins, number_grows}
use Rattle.bt_bencode.proofs.Stopping.{no_number, number_goes, digit_goes_on, number_is_there}
use Rattle.bt_torrent.proofs.bencoded.number_in_front.Goals as goal
use Rattle.bt_torrent.proofs.bencoded.number_in_front.Goals.{then-bytes-eq0-via-then-bytes-eq0, then-bytes-eq0-via-else-bytes-eq0+then-not-is_digit}
use Rattle.bt_torrent.proofs.bencoded.number_in_front.Goals.{then-not-is_digit-2-via-then-not-is_digit-2, then-not-is_digit-2-via-else-not-is_digit-2+then-n-eq0}
use Rattle.bt_torrent.proofs.bencoded.number_in_front.Goals.{then-not-is_digit-2-via-else-not-is_digit-2+else-n-eq0+then-not-may_grow}

pub loop-rest-init : goal.loop-rest-init
loop-rest-init c =
    let digit = c.if-not-is_digit.ensures.0 refl in
    record {
      bound = omega (arith, digit);
      read = number_begins c.args.bytes.now c.following-rest.result.now (omega arith) digit c.following-rest.ensures;
      goes = λ m more le is. (number_goes c.args.high c.args.stop c.args.bytes.now c.following-rest.result.now (omega arith) (omega arith)
          c.following-rest.ensures m more le is).1;
    }

pub loop-rest-preserved : goal.loop-rest-preserved
loop-rest-preserved c =
    let digit = c.if-not-is_digit-2.ensures.0 refl in
    let grows = c.if-not-may_grow.ensures.0 refl in
    record {
      bound = grows;
      read = number_grows c.args.bytes.now c.loop-rest.rest.now c.following-rest-in-loop-rest.result.now c.loop-rest.n (omega arith) digit (omega arith)
          (omega (arith, digit, grows)) c.following-rest-in-loop-rest.ensures c.loop-rest.invariant.read;
      goes = λ m more le is. (digit_goes_on c.args.high c.args.stop c.loop-rest.n m more c.loop-rest.rest.now c.following-rest-in-loop-rest.result.now
          c.if-byte-stop.false c.following-rest-in-loop-rest.ensures (c.loop-rest.invariant.goes m more le is)).3;
    }

pub returns-then-bytes-eq0-clause-none : goal.returns-then-bytes-eq0-clause-none
returns-then-bytes-eq0-clause-none c = λ e m more le is.
    elim c.then-bytes-eq0.branch [
      | then-bytes-eq0-via-then-bytes-eq0 w ↦ no_number c.args.high c.args.stop c.args.bytes.now (omega arith) (omega arith) (omega arith) m more le is
      | then-bytes-eq0-via-else-bytes-eq0+then-not-is_digit w ↦
          let no = w.if-not-is_digit.ensures.1 (number_goes c.args.high c.args.stop c.args.bytes.now (drop 1 c.args.bytes.now) (omega arith) (omega arith) refl
          m more le is).0 in
          cc
    ]

pub returns-then-not-is_digit-2-clause-none : goal.returns-then-not-is_digit-2-clause-none
returns-then-not-is_digit-2-clause-none c = λ e m more le is.
    let d = digit_goes_on c.args.high c.args.stop c.loop-rest.n m more c.loop-rest.rest.now (drop 1 c.loop-rest.rest.now) c.if-byte-stop.false refl
    (c.loop-rest.invariant.goes m more le is) in
    elim c.then-not-is_digit-2.branch [
      | then-not-is_digit-2-via-then-not-is_digit-2 w ↦ let no = w.if-not-is_digit-2.ensures.1 d.0 in cc
      | then-not-is_digit-2-via-else-not-is_digit-2+then-n-eq0 w ↦ omega (arith, d.1, w.if-n-eq0.true)
      | then-not-is_digit-2-via-else-not-is_digit-2+else-n-eq0+then-not-may_grow w ↦ let no = w.if-not-may_grow.ensures.1 d.2 in cc
    ]

pub returns-clause-none : goal.returns-clause-none
returns-clause-none c = λ e m more le is. number_is_there c.args.high c.args.stop c.loop-rest.n m more c.loop-rest.rest.now (omega arith)
    (c.loop-rest.invariant.goes m more le is)
