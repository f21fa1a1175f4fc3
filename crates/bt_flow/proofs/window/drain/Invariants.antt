use Rattle.std.proofs.Common.{◌-◌}
use Rattle.bt_tcp.specs.Rings.{ahead, IsSound}
use Rattle.bt_flow.specs.Views.{HandsSome}
use Rattle.bt_flow.proofs.window.drain.Given as goal

abbrev pub invariant-loop-ring : goal.invariant-loop-ring
invariant-loop-ring l = record {
  sound : IsSound l.ring l.known l.memory;
  some : HandsSome l.initial.ring.next (ahead l.initial.ring l.initial.known l.memory) l.initial.out.items l.ring.next
      (ahead l.ring l.known l.memory) l.out.items;
}

abbrev pub decreases-loop-ring : goal.decreases-loop-ring
decreases-loop-ring l = l.ring.end - l.ring.next
