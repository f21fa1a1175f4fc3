use Rattle.std.proofs.Common.{◌≡◌, ℕ, ◌+◌, ◌-◌, ◌<◌, ◌≤◌, None}
use Rattle.bt_flow.specs.Pages.{byte_of}
use Rattle.bt_flow.proofs.pages.Pages.count_missing.Given as goal

abbrev pub invariant-loop-count : goal.invariant-loop-count
invariant-loop-count l = record {
  most : l.count ≤ l.most;
  none : (i : ℕ) → l.at ≤ i → i < l.at + l.count → byte_of l.self i ≡ None;
}

abbrev pub decreases-loop-count : goal.decreases-loop-count
decreases-loop-count l = l.most - l.count
