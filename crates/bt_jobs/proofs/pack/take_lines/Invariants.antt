-- the lines so far are taken
use Rattle.std.proofs.Common.{◌≡◌, ℕ, List, [], length}
use Rattle.bt_wire.specs.declared.context.Own.{Own}
use Rattle.bt_jobs.specs.PackSteps.{Packing, packer, IsDone}
use Rattle.bt_jobs.proofs.pack.take_lines.Given as goal

abbrev pub invariant-lines : goal.invariant-lines
invariant-lines l = record {
  empty : l.line.items ≡ [];
  taken : (own : Own) (before : List ℕ) (p : Packing) (piece : List ℕ) → l.limit ≡ own.limit
      → IsDone own before p piece l.fn.text (packer [] l.fn.judge l.fn.out.items) → IsDone own before p piece l.rest (packer [] l.judge l.out.items);
}

abbrev pub decreases-lines : goal.decreases-lines
decreases-lines l = length l.rest
