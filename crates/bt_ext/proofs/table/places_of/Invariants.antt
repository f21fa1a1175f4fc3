-- The places so far and the pairs that are left lead to the whole's entries.
use Rattle.std.proofs.Common.{◌≡◌, drop}
use Rattle.bt_ext.specs.Tables.{entered_all}
use Rattle.bt_ext.specs.Holding.{entries_of}
use Rattle.bt_ext.specs.Updates.{renumbered}
use Rattle.bt_ext.proofs.table.places_of.Given as goal

abbrev pub invariant-loop-name : goal.invariant-loop-name
invariant-loop-name g l =
    entered_all (entries_of (drop l.name-index l.told)) (renumbered l.places.items l.entries) ≡ entered_all (entries_of l.told) l.entries
