use Rattle.std.proofs.Common.{◌≡◌, ℕ, ◌≤◌, length}
use Rattle.bt_flow.specs.Pages.{byte_of}
use Rattle.bt_flow.proofs.pages.Pages.forget.Given as goal

abbrev pub invariant-loop-number : goal.invariant-loop-number
invariant-loop-number l = (i : ℕ) → l.before ≤ i → byte_of l.self i ≡ byte_of l.fn.self i

abbrev pub decreases-loop-number : goal.decreases-loop-number
decreases-loop-number l = length l.self.pages.entries
