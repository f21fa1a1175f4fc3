-- The pairs that are left lead from what was told so far to the whole.
use Rattle.std.proofs.Common.{◌≡◌, ◌++◌, []}
use Rattle.bt_ext.specs.Tables.{told_by}
use Rattle.bt_ext.specs.Holding.{entries_of, names_of}
use Rattle.bt_ext.proofs.told.told_by.Given as goal

abbrev pub invariant-loop-name : goal.invariant-loop-name
invariant-loop-name g l = told_by [] l.initial.name-iterator ≡ entries_of l.entries.items ++ told_by (names_of l.names) l.name-iterator
