-- The copies so far and the entries that are left lead to the whole's; they are no more than the pairs so far.
use Rattle.std.proofs.Common.{◌≡◌, ◌≤◌, drop, vec_len}
use Rattle.bt_ext.specs.Tables.{Entries, entered_all}
use Rattle.bt_ext.specs.Holding.{entries_of}
use Rattle.bt_ext.proofs.table.copy_told.Given as goal

abbrev pub invariant-loop-name : goal.invariant-loop-name
invariant-loop-name g l =
    ((es : Entries) → entered_all (entries_of (drop l.name-index l.told)) (entered_all l.copies.items es) ≡ entered_all (entries_of l.told) es)
    × (vec_len l.copies ≤ l.name-index)
