use Rattle.std.proofs.Common.{◌+◌, ◌-◌, length}
use Rattle.bt_end.proofs.Handling.{IsUnderWay}
use Rattle.bt_end.proofs.end.End.handle.Given as goal

-- what is handled so far, and what follows, is all that is handled
abbrev pub invariant-rounds : goal.invariant-rounds
invariant-rounds g l = IsUnderWay l.fn.self l.fn.bytes l.used l.self

abbrev pub decreases-rounds : goal.decreases-rounds
decreases-rounds g l = (length l.fn.bytes - l.used) + length l.self.feed.held
