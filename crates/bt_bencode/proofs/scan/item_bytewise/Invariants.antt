-- The bytes before this one have been read, and an item has begun.
use Rattle.std.proofs.Common.{◌-◌, ◌≤◌, length, take}
use Rattle.bt_bencode.specs.Scanner.{HasRead, IsDone}
use Rattle.bt_bencode.proofs.scan.item_bytewise.Given as goal

abbrev pub decreases-loop-at : goal.decreases-loop-at
decreases-loop-at l = length l.payload - l.at

abbrev pub invariant-loop-at : goal.invariant-loop-at
invariant-loop-at l = record {
  after : l.fn.at ≤ l.at;
  within : l.at ≤ length l.payload;
  read : HasRead (take l.at l.payload) l.expect l.stack;
  goes_on : IsDone l.expect l.stack → ⊥;
}
