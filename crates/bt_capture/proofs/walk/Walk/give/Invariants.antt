use Rattle.std.proofs.Common.{◌≡◌, ℕ, ◌-◌, ◌≤◌, [], length}
use Rattle.bt_pcap.specs.declared.fault.FileFault.{FileFault}
use Rattle.bt_capture.specs.Readings.{GoesOn, IsFaulty}
use Rattle.bt_capture.specs.Walks.{walk_state}
use Rattle.bt_capture.proofs.walk.Walk.give.Given as goal

abbrev pub decreases-items : goal.decreases-items
decreases-items l = length l.bytes - l.self.at

abbrev pub invariant-items : goal.invariant-items
invariant-items l = record {
  within : l.self.at ≤ length l.bytes;
  goes : (total : ℕ) → GoesOn (walk_state l.initial.self l.bytes total) [] [] (walk_state l.self l.bytes total);
  again : (total : ℕ) (f : FileFault) → IsFaulty (walk_state l.initial.self l.bytes total) f
      → walk_state l.self l.bytes total ≡ walk_state l.initial.self l.bytes total;
}
