use Rattle.std.proofs.Common.{◌≡◌, ℕ, ◌<◌, get_or, true}
use Rattle.bt_tcp.proofs.bits.are_all.Given as goal

abbrev pub invariant-loop-b : goal.invariant-loop-b
invariant-loop-b l = l.all ≡ true → (j : ℕ) → j < l.b-index → get_or l.bytes j 0 ≡ l.byte
