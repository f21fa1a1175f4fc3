-- The copies that are left lead from the table to the whole's, and there is room for them.
use Rattle.std.proofs.Common.{◌≡◌, ◌+◌, ◌≤◌, min, vec_len, vec_capacity}
use Rattle.std.specs.Vec.Iter.{into_iter_items, into_iter_len}
use Rattle.bt_ext.specs.Tables.{entered_all}
use Rattle.bt_ext.proofs.table.enter_copies.Given as goal

abbrev pub invariant-loop-name : goal.invariant-loop-name
invariant-loop-name g l = (entered_all (into_iter_items l.name-iterator) l.entries.items ≡ entered_all (into_iter_items l.initial.name-iterator) l.fn.entries.items)
    × (min (vec_len l.entries + into_iter_len l.name-iterator) 256 ≤ vec_capacity l.entries)
    × (vec_capacity l.entries ≡ vec_capacity l.fn.entries)
