use Rattle.std.proofs.Common.{arith, refl}
use Rattle.bt_bencode.proofs.Passing.{plus_passes, minus_passes}
use Rattle.bt_bencode.proofs.Stopping.{no_head, no_plus, no_minus, no_negative_zero}
use Rattle.bt_torrent.proofs.bencoded.after_integer.Goals as goal
use Rattle.bt_torrent.proofs.bencoded.after_integer.Goals.{else-bytes-gt0-via-then-bytes-gt0+else-bytes-eq45, else-bytes-gt0-via-else-bytes-gt0}

pub returns-then-bytes-eq45-clause-passes : goal.returns-then-bytes-eq45-clause-passes
returns-then-bytes-eq45-clause-passes c = minus_passes c.args.bytes.now c.following.result.now c.in_ok-n.rest.now c.in_ok-n.n c.if-bytes-eq45.true
    c.following.ensures (omega arith) (omega (arith, c.in_ok-n.ensures.bound)) c.in_ok-n.ensures.split

pub returns-in_err-n-clause-none : goal.returns-in_err-n-clause-none
returns-in_err-n-clause-none c = λ e. no_minus c.args.bytes.now c.following.result.now c.if-bytes-eq45.true c.following.ensures (c.in_err-n.ensures.none refl)

pub returns-then-n-eq0-clause-none : goal.returns-then-n-eq0-clause-none
returns-then-n-eq0-clause-none c = λ e. no_negative_zero c.args.bytes.now c.following.result.now c.in_ok-n.rest.now c.in_ok-n.n c.if-bytes-eq45.true
    c.following.ensures c.if-n-eq0.true c.in_ok-n.ensures.split

pub returns-clause-passes : goal.returns-clause-passes
returns-clause-passes c = plus_passes c.args.bytes.now c.in_ok-rest.rest.now c.in_ok-rest.field-0-0 (omega (arith, c.in_ok-rest.ensures.bound))
    c.in_ok-rest.ensures.split

pub returns-in_err-rest-clause-none : goal.returns-in_err-rest-clause-none
returns-in_err-rest-clause-none c = λ e.
    elim c.else-bytes-gt0.branch [
      | else-bytes-gt0-via-then-bytes-gt0+else-bytes-eq45 w ↦ no_plus c.args.bytes.now w.if-bytes-eq45.false (c.in_err-rest.ensures.none refl)
      | else-bytes-gt0-via-else-bytes-gt0 w ↦ no_plus c.args.bytes.now (no_head c.args.bytes.now 45 (omega arith) (omega arith)) (c.in_err-rest.ensures.none refl)
    ]
