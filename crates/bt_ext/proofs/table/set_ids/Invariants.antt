-- The places that are left lead from the entries to the whole's.
use Rattle.std.proofs.Common.{◌≡◌, drop}
use Rattle.bt_ext.specs.Updates.{renumbered}
use Rattle.bt_ext.proofs.table.set_ids.Given as goal

abbrev pub invariant-loop-place : goal.invariant-loop-place
invariant-loop-place g l = renumbered (drop l.place-index l.places) l.entries.items ≡ renumbered l.places l.fn.entries.items
