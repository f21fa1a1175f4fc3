use Rattle.std.proofs.Common.{◌≡◌, ◌+◌, ℕ, List, Option, is_some, count_by, vec_len}
use Rattle.bt_fetch.specs.Logs.{IsCourse, Stage}
use Rattle.bt_fetch.specs.declared.device.Happening.{Happening}
use Rattle.bt_fetch.proofs.dialling.leave_dials.Given as goal

-- as many links ended as are no longer held
abbrev pub invariant-loop-slot : goal.invariant-loop-slot
invariant-loop-slot g l = record {
  inside : g.D.Device.inside l.device + count_by (λ s. is_some s) l.fn.dials.slots.items
      ≡ g.D.Device.inside l.fn.device + count_by (λ s. is_some s) l.slots.items;
  list : g.D.Device.list l.device ≡ g.D.Device.list l.fn.device;
  log : (s : Stage) (start : Option (List Happening)) (dials : ℕ → ℕ) → IsCourse s start (g.D.Device.log l.fn.device) dials
      → IsCourse s start (g.D.Device.log l.device) dials;
}

abbrev pub decreases-loop-slot : goal.decreases-loop-slot
decreases-loop-slot g l = vec_len l.slots
