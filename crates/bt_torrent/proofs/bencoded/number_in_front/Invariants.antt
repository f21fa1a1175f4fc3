-- The digits before the rest are the number's.
use Rattle.std.proofs.Common.{◌≡◌, ◌≤◌, ◌∷◌, ◌++◌, ℕ, List, length}
use Rattle.std.specs.Fmt.{decimal}
use Rattle.bt_bencode.specs.Readable.{IsNumber}
use Rattle.bt_bencode.specs.Scanner.{NumberThen}
use Rattle.bt_torrent.proofs.bencoded.number_in_front.Given as goal

abbrev pub invariant-loop-rest : goal.invariant-loop-rest
invariant-loop-rest l = record {
  bound : l.n ≤ l.high;
  read : l.fn.bytes ≡ decimal l.n ++ l.rest;
  goes : (m : ℕ) (more : List ℕ) → m ≤ l.high → l.fn.bytes ≡ decimal m ++ l.stop ∷ more → NumberThen l.high l.stop (IsNumber m more) l.n l.rest;
}

abbrev pub decreases-loop-rest : goal.decreases-loop-rest
decreases-loop-rest l = length l.rest
