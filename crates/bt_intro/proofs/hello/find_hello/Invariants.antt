use Rattle.std.proofs.Common.{ℕ, ◌≤◌, ◌<◌}
use Rattle.bt_intro.specs.Hellos.{IsHelloAt}
use Rattle.bt_intro.proofs.hello.find_hello.Given as goal

abbrev pub invariant-loop-place : goal.invariant-loop-place
invariant-loop-place l = (j : ℕ) → l.low ≤ j → j < l.place → IsHelloAt l.front j → ⊥
