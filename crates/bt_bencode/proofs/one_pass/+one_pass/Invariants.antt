-- What passes after what was passed makes the whole pass, and where the rest stops or halts the whole does.
use Rattle.std.proofs.Common.{◌≡◌, ◌≤◌, ℕ, ◌+◌, ◌*◌, List, None, length}
use Rattle.std.specs.Option.{option_copied}
use Rattle.bt_bencode.specs.OnePass.{PassesItems, PassesPairs, StopsItems, StopsPairs, Halts}
use Rattle.bt_bencode.specs.Scanner.{room_in}
use Rattle.bt_bencode.specs.declared.scan.Container.{Container}
use Rattle.bt_bencode.proofs.one_pass.+one_pass.Given as goal

abbrev pub decreases-after_value : goal.decreases-after_value
decreases-after_value l = 2 * room_in l.stack.now

abbrev pub decreases-after_items : goal.decreases-after_items
decreases-after_items l = 2 * room_in l.stack.now + 1

abbrev pub decreases-after_pairs : goal.decreases-after_pairs
decreases-after_pairs l = 2 * room_in l.stack.now + 1

abbrev pub invariant-after_items-loop-rest : goal.invariant-after_items-loop-rest
invariant-after_items-loop-rest l = record {
  within : length l.rest ≤ length l.fn.bytes;
  same : l.stack ≡ l.fn.stack;
  passes : (more : List ℕ) → PassesItems (room_in l.fn.stack) l.rest more → PassesItems (room_in l.fn.stack) l.fn.bytes more;
  stops : (left : ℕ) → StopsItems (room_in l.fn.stack) l.rest left → StopsItems (room_in l.fn.stack) l.fn.bytes left;
  halts : (left : ℕ) (o : List Container) → Halts l.fn.stack l.rest left o → Halts l.fn.stack l.fn.bytes left o;
}

abbrev pub decreases-after_items-loop-rest : goal.decreases-after_items-loop-rest
decreases-after_items-loop-rest l = length l.rest

abbrev pub invariant-after_pairs-loop-rest : goal.invariant-after_pairs-loop-rest
invariant-after_pairs-loop-rest l = record {
  within : length l.rest ≤ length l.fn.bytes;
  same : l.stack ≡ l.fn.stack;
  passes : (more : List ℕ) → PassesPairs (room_in l.fn.stack) (option_copied l.last) l.rest more → PassesPairs (room_in l.fn.stack) None l.fn.bytes more;
  stops : (left : ℕ) → StopsPairs (room_in l.fn.stack) (option_copied l.last) l.rest left → StopsPairs (room_in l.fn.stack) None l.fn.bytes left;
  halts : (left : ℕ) (o : List Container) → Halts l.fn.stack l.rest left o → Halts l.fn.stack l.fn.bytes left o;
}

abbrev pub decreases-after_pairs-loop-rest : goal.decreases-after_pairs-loop-rest
decreases-after_pairs-loop-rest l = length l.rest
