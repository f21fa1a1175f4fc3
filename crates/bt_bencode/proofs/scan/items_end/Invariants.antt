-- The bytes before this one have been read, and an item or an end follows.
use Rattle.std.proofs.Common.{◌-◌, ◌≤◌, length, take}
use Rattle.bt_bencode.specs.Scanner.{HasRead}
use Rattle.bt_bencode.specs.declared.scan.Expect.TheVariants as expect
use Rattle.bt_bencode.proofs.scan.items_end.Given as goal

abbrev pub decreases-loop-end : goal.decreases-loop-end
decreases-loop-end l = length l.payload - l.at

abbrev pub invariant-loop-end : goal.invariant-loop-end
invariant-loop-end l = record { after : l.fn.at ≤ l.at; within : l.at ≤ length l.payload; read : HasRead (take l.at l.payload) expect.Item l.stack }
