-- The bytes before this one have been read, and an item or an end follows.
use Rattle.std.proofs.Common.{◌-◌, ◌≤◌, length, take}
use Rattle.bt_bencode.specs.Scanner.{HasRead}
use Rattle.bt_bencode.specs.declared.scan.Expect.TheVariants as expect
use Rattle.bt_bencode.proofs.scan.scan_on.Given as goal

abbrev pub decreases-items : goal.decreases-items
decreases-items l = length l.payload - l.at

abbrev pub invariant-items : goal.invariant-items
invariant-items l = record { within : l.at ≤ length l.payload; read : HasRead (take l.at l.payload) expect.Item l.stack }
