-- the bytes that are left come after those that were added
use Rattle.std.proofs.Common.{◌≡◌, ◌++◌, drop}
use Rattle.bt_tracker.specs.Questions.{escaped}
use Rattle.bt_tracker.proofs.question.push_escaped.Given as goal

abbrev pub invariant-loop-byte : goal.invariant-loop-byte
invariant-loop-byte l = l.question.items ++ escaped (drop l.byte-index l.bytes) ≡ l.fn.question.items ++ escaped l.bytes
