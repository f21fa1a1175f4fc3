use Rattle.std.proofs.Common.{◌≡◌, is_some, count_by, vec_len}
use Rattle.bt_fetch.proofs.dialling.Dials.new.Given as goal

-- each slot so far is free
abbrev pub invariant-loop-slot : goal.invariant-loop-slot
invariant-loop-slot g l = record {
  none : count_by (λ s. is_some s) l.slots.items ≡ 0;
  len : vec_len l.slots ≡ l._slot;
}
