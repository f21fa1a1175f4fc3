use Rattle.std.proofs.Common.{◌≡◌, ℕ, ◌+◌, ◌<◌, length, get_or}
use Rattle.std.specs.Prelude.{unwrap_or}
use Rattle.bt_flow.specs.Pages.{byte_of}
use Rattle.bt_flow.proofs.far.Far.merged.Given as goal

abbrev pub invariant-loop-j : goal.invariant-loop-j
invariant-loop-j l = record {
  len : length l.all.items ≡ l.j;
  first : (k : ℕ) → k < l.j → get_or l.all.items k 0 ≡ unwrap_or (byte_of l.self.pages (l.at + k)) (get_or l.part k 0);
}
