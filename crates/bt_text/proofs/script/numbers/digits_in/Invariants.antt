use Rattle.std.proofs.Common.{◌≡◌, ℕ, ◌<◌, take, get_or}
use Rattle.std.specs.Int.{IsInRange}
use Rattle.std.specs.Str.Parse.{digits_value}
use Rattle.bt_text.proofs.script.numbers.digits_in.Given as goal

abbrev pub invariant-loop-count : goal.invariant-loop-count
invariant-loop-count l = record {
  value : l.n ≡ digits_value 10 (take l.count l.text);
  digits : (k : ℕ) → k < l.count → IsInRange 48 57 (get_or l.text k 0);
}
