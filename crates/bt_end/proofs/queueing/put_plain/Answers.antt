use Rattle.std.proofs.Common.{ℕ, ap, arith, length}
use Rattle.bt_end.proofs.queueing.put_plain.Goals as goal

pub put-requires : goal.put-requires
put-requires g c =
    omega (arith, c.head_and_tail-head.ensures.size, ap (length {A = ℕ}) c.as_slice.ensures, c.in_ok-reserve.ensures.ok, c.requires)

pub put-requires-2 : goal.put-requires-2
put-requires-2 g c =
    omega (arith, c.head_and_tail-head.ensures.size, ap (length {A = ℕ}) c.as_slice.ensures, c.in_ok-reserve.ensures.ok, c.requires, c.put.ensures.room)
