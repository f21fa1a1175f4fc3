use Rattle.std.proofs.Common.{◌≡◌, ℕ, ◌<◌, ◌≤◌}
use Rattle.bt_tcp.specs.Bits.{flag}
use Rattle.bt_tcp.proofs.bits.end_by_flag.Given as goal

abbrev pub invariant-loop-i : goal.invariant-loop-i
invariant-loop-i l = (k : ℕ) → l.from ≤ k → k < l.i → flag l.bits k ≡ l.value
