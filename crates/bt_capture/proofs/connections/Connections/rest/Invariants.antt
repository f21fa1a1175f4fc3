use Rattle.std.proofs.Common.{◌≡◌, length, ◌++◌}
use Rattle.std.specs.List.Sorted.{IsPermutation}
use Rattle.bt_capture.proofs.connections.Connections.rest.Given as goal

abbrev pub decreases-table : goal.decreases-table
decreases-table l = length l.self.table

abbrev pub invariant-table : goal.invariant-table
invariant-table l = record {
  all : IsPermutation l.initial.self.table (l.rest.items ++ l.self.table);
  same : l.self ≡ record l.initial.self { table = l.self.table };
}
