-- What is put stands for the bytes that are taken.
use Rattle.std.proofs.Common.{◌≡◌, ◌≤◌, ◌-◌, ◌*◌, length, take}
use Rattle.json.specs.Print.{escape}
use Rattle.bt_json.proofs.texts.put_few.Given as goal

abbrev pub invariant-loop-taken : goal.invariant-loop-taken
invariant-loop-taken l = record {
  within : (l.taken ≤ 16) × (l.taken ≤ length l.bytes);
  room : (l.size ≤ 6 * l.taken) × (length l.text ≡ 96);
  put : take l.size l.text ≡ escape (take l.taken l.bytes);
}

abbrev pub decreases-loop-taken : goal.decreases-loop-taken
decreases-loop-taken l = 16 - l.taken
