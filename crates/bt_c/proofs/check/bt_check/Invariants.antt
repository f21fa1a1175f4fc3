use Rattle.std.proofs.Common.{◌≡◌, ◌≤◌, ◌-◌, List, ℕ, length, drop}
use Rattle.bt_wire.specs.declared.item.Item.{Item}
use Rattle.bt_c.specs.Runs.{Reads}
use Rattle.bt_c.proofs.RunLaws.{new_reader}
use Rattle.bt_c.proofs.check.bt_check.Given as goal

-- the calls so far read items from the start on
abbrev pub invariant-items : goal.invariant-items
invariant-items l = record {
  within : l.at ≤ length l.bytes;
  moved : l.count ≤ l.at;
  reads : (xs : List (ℕ × Item)) × Reads (new_reader l.own) l.bytes xs l.reader (drop l.at l.bytes) × (length xs ≡ l.count);
}

abbrev pub decreases-items : goal.decreases-items
decreases-items l = length l.bytes - l.at
