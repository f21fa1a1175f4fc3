-- The name is in no entry before this one.
use Rattle.std.proofs.Common.{◌≡◌, None, take}
use Rattle.bt_ext.specs.Tables.{id_of_name}
use Rattle.bt_ext.proofs.table.place_of.Given as goal

abbrev pub invariant-loop-i : goal.invariant-loop-i
invariant-loop-i g l = id_of_name l.name (take l.i l.entries) ≡ None
