-- The set has the table's names, and the entries that are left lead from the table to the whole's.
use Rattle.std.proofs.Common.{◌≡◌, drop}
use Rattle.bt_ext.specs.Tables.{entered_all}
use Rattle.bt_ext.specs.Holding.{entries_of, names_of, HasNames}
use Rattle.bt_ext.proofs.table.Table.enter_all.Given as goal

abbrev pub invariant-loop-name : goal.invariant-loop-name
invariant-loop-name g l = HasNames (names_of l.names) l.self
    × (entered_all (entries_of (drop l.name-index l.told)) l.self ≡ entered_all (entries_of l.told) l.fn.self)
