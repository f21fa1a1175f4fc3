-- The number goes on in the rest as it does in the whole.
use Rattle.std.proofs.Common.{◌≤◌, ◌^◌, ℕ, List, length}
use Rattle.bt_bencode.specs.Readable.{NumberGoesOn, IsNumber}
use Rattle.bt_bencode.specs.Scanner.{NumberThen}
use Rattle.bt_bencode.proofs.read.number.Given as goal

abbrev pub invariant-loop-rest : goal.invariant-loop-rest
invariant-loop-rest l = record {
  bound : l.value ≤ 2 ^ 63;
  more : NumberGoesOn l.fn.stop l.value l.rest;
  same : (m : ℕ) (rest : List ℕ) → NumberThen (2 ^ 63) l.fn.stop (IsNumber m rest) l.fn.n l.fn.bytes → NumberThen (2 ^ 63) l.fn.stop (IsNumber m rest)
      l.value l.rest;
}

abbrev pub decreases-loop-rest : goal.decreases-loop-rest
decreases-loop-rest l = length l.rest
