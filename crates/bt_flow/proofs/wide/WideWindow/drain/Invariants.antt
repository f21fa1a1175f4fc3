use Rattle.std.proofs.Common.{◌≡◌, ◌-◌}
use Rattle.std.specs.Prelude.{None}
use Rattle.bt_flow.specs.Memory as ring
use Rattle.bt_flow.specs.Views.{HandsSome}
use Rattle.bt_flow.specs.Wide.{next_of, seen, KeepsLittle}
use Rattle.bt_flow.proofs.wide.WideWindow.drain.Given as goal

abbrev pub invariant-loop-byte : goal.invariant-loop-byte
invariant-loop-byte l = record {
  far : l.self.far ≡ l.fn.self.far;
  none : ring.seen l.self.window 0 ≡ None;
  little : KeepsLittle l.self.window;
  some : HandsSome (next_of l.fn.self) (seen l.fn.self) l.fn.later.items (next_of l.self) (seen l.self) l.later.items;
}

abbrev pub decreases-loop-byte : goal.decreases-loop-byte
decreases-loop-byte l = l.self.far.end - ring.next_of l.self.window
