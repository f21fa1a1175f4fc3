use Rattle.std.proofs.Common.{◌+◌, ◌-◌, length}
use Rattle.bt_loop.proofs.Passing.{IsUnderWay}
use Rattle.bt_loop.proofs.both.take_turns.Given as goal

-- what is handled so far, and what follows, is all that is handled
abbrev pub invariant-turns : goal.invariant-turns
invariant-turns g l = IsUnderWay l.fn.end l.fn.bytes l.used l.end l.items

abbrev pub decreases-turns : goal.decreases-turns
decreases-turns g l = (length l.fn.bytes - l.used) + length l.end.feed.held
