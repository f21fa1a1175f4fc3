use Rattle.std.proofs.Common.{◌+◌, ◌≤◌, vec_len, vec_capacity}
use Rattle.bt_order.specs.Held.{count}
use Rattle.bt_order.specs.Directions.{Passes}
use Rattle.bt_order.proofs.direction.Direction.drain.Given as goal

abbrev pub invariant-loop-self : goal.invariant-loop-self
invariant-loop-self l = record {
  passes : Passes l.initial.self l.initial.out.items l.self l.out.items;
  room : vec_len l.out + l.self.held.counted ≤ vec_capacity l.out;
}

abbrev pub decreases-loop-self : goal.decreases-loop-self
decreases-loop-self l = count l.self.held
