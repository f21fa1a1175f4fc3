use Rattle.std.proofs.Common.{◌≡◌, ◌++◌, drop}
use Rattle.std.specs.List.{flat_map}
use Rattle.bt_link.specs.Shown.{outcome_line}
use Rattle.bt_link.proofs.report.push_outcomes.Given as goal

-- what is written, and the lines of the outcomes that are left
abbrev pub invariant-outcomes : goal.invariant-outcomes
invariant-outcomes l = l.text.items ++ flat_map outcome_line (drop l.outcome-index l.outcomes) ≡ l.initial.text.items ++ flat_map outcome_line l.outcomes
