use Rattle.std.proofs.Common.{◌≡◌, ℕ, ◌<◌, get_or, length}
use Rattle.std.specs.Prelude.{bit_xor}
use Rattle.bt_dht.proofs.near.distance.Given as goal

-- the bytes so far
abbrev pub invariant-loop-i : goal.invariant-loop-i
invariant-loop-i l = (length l.xor ≡ 20) × ((k : ℕ) → k < l.i → get_or l.xor k 0 ≡ bit_xor (get_or l.a k 0) (get_or l.b k 0))
