-- The bytes before this one are equal.
use Rattle.std.proofs.Common.{◌≡◌, ◌-◌, ◌≤◌, take}
use Rattle.bt_bencode.proofs.sorted.is_above_bytewise.Given as goal

abbrev pub invariant-loop-at : goal.invariant-loop-at
invariant-loop-at l = record { within : l.at ≤ l.shared; same : take l.at l.last ≡ take l.at l.key }

abbrev pub decreases-loop-at : goal.decreases-loop-at
decreases-loop-at l = l.shared - l.at
