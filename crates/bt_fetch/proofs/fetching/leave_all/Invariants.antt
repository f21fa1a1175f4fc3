use Rattle.std.proofs.Common.{◌≡◌, ◌+◌, ℕ, List, Option, is_some, count_by, vec_len}
use Rattle.bt_fetch.specs.Logs.{IsCourse, Stage}
use Rattle.bt_fetch.specs.declared.device.Happening.{Happening}
use Rattle.bt_fetch.proofs.fetching.leave_all.Given as goal

-- as many connections ended as are no longer held
abbrev pub invariant-loop-place : goal.invariant-loop-place
invariant-loop-place g l = record {
  inside : g.D.Device.inside l.device + count_by (λ p. is_some p.visit) l.fn.places.items
      ≡ g.D.Device.inside l.fn.device + count_by (λ p. is_some p.visit) l.places.items;
  list : g.D.Device.list l.device ≡ g.D.Device.list l.fn.device;
  log : (s : Stage) (start : Option (List Happening)) (dials : ℕ → ℕ) → IsCourse s start (g.D.Device.log l.fn.device) dials
      → IsCourse s start (g.D.Device.log l.device) dials;
}

abbrev pub decreases-loop-place : goal.decreases-loop-place
decreases-loop-place g l = vec_len l.places
