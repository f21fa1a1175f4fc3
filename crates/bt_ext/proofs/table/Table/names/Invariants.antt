-- The entries so far have their names in the set.
use Rattle.std.proofs.Common.{take}
use Rattle.bt_ext.specs.Holding.{names_of, HasNames}
use Rattle.bt_ext.proofs.table.Table.names.Given as goal

abbrev pub invariant-loop-name : goal.invariant-loop-name
invariant-loop-name g l = HasNames (names_of l.names) (take l.name-index l.self)
