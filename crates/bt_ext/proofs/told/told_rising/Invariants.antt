-- The pairs that are left lead from what was told so far to the whole, and no name above the last one came before.
use Rattle.std.proofs.Common.{◌≡◌, ◌++◌, ℕ, List, []}
use Rattle.std.specs.Option.{option_copied}
use Rattle.bt_ext.specs.Tables.{told_by}
use Rattle.bt_ext.specs.Holding.{entries_of}
use Rattle.bt_ext.proofs.Rising.{AreBelow}
use Rattle.bt_ext.proofs.told.told_rising.Given as goal

abbrev pub invariant-loop-name : goal.invariant-loop-name
invariant-loop-name g l = (earlier : List (List ℕ)) × AreBelow earlier (option_copied l.last)
    × (told_by [] l.initial.name-iterator ≡ entries_of l.entries.items ++ told_by earlier l.name-iterator)
