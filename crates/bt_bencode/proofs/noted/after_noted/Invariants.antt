-- What passes after what was passed makes the whole pass, and a key that wasn't noted is in no pair before.
use Rattle.std.proofs.Common.{◌≡◌, List, ℕ, None, length}
use Rattle.std.specs.Option.{option_copied}
use Rattle.bt_bencode.specs.OnePass.{StopsPairs, Halts}
use Rattle.bt_bencode.specs.declared.scan.Container.{Container}
use Rattle.bt_bencode.proofs.Noting.{IsPassed}
use Rattle.bt_bencode.proofs.noted.after_noted.Given as goal

abbrev pub invariant-loop-rest : goal.invariant-loop-rest
invariant-loop-rest l = record {
  passed : IsPassed l.one l.two l.three l.fn.bytes l.first l.second l.third (option_copied l.last) l.rest;
  stops : (left : ℕ) → StopsPairs 31 (option_copied l.last) l.rest left → StopsPairs 31 None l.fn.bytes left;
  same : l.stack ≡ l.fn.stack;
  halts : (left : ℕ) (o : List Container) → Halts l.fn.stack l.rest left o → Halts l.fn.stack l.fn.bytes left o;
}

abbrev pub decreases-loop-rest : goal.decreases-loop-rest
decreases-loop-rest l = length l.rest
