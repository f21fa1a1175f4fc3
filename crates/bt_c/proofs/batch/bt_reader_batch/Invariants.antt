use Rattle.std.proofs.Common.{length, ◌-◌, ◌≡◌, ◌≤◌}
use Rattle.bt_c.specs.Readers.{context_of}
use Rattle.bt_c.proofs.BatchLaws.{IsSoFar}
use Rattle.bt_c.proofs.batch.bt_reader_batch.Given as goal

-- the calls so far gave the items that the array begins with
abbrev pub invariant-items : goal.invariant-items
invariant-items l = record {
  size : length l.items ≡ length l.fn.items;
  room : l.count ≤ length l.items;
  so_far : IsSoFar l.fn.reader l.bytes l.reader l.fn.items l.items l.count l.used;
  context : l.context ≡ context_of l.reader;
}

abbrev pub decreases-items : goal.decreases-items
decreases-items l = length l.fn.items - l.count
