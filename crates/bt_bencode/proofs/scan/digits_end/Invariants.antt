use Rattle.std.proofs.Common.{length, ◌-◌, ◌*◌, ◌^◌, ◌<◌}
use Rattle.bt_bencode.proofs.Tokens.{DigitsRead}
use Rattle.bt_bencode.proofs.scan.digits_end.Given as goal

abbrev pub decreases-loop-i : goal.decreases-loop-i
decreases-loop-i l = length l.payload - l.i

abbrev pub invariant-loop-i : goal.invariant-loop-i
invariant-loop-i l = record { read : DigitsRead l.payload l.at l.i l.n; some : 0 < l.n; small : l.n < 2 ^ (4 * (l.i - l.at)) }
