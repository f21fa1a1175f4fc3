-- What is so of each assembly.
use Rattle.std.proofs.Common.{◌≡◌, ℕ, ◌<◌, ◌≤◌, List, length, count_by, subst, sym, ◌∙◌}
use Rattle.bt_ext.specs.Metadata.{block_count}
use Rattle.bt_metadata.specs.declared.assembly.Status.{Status}
use Rattle.bt_metadata.specs.Blocks.{max_metadata, window}
use Rattle.bt_metadata.specs.Sound.{IsAssembly, state_of, asks}
use Rattle.bt_metadata.proofs.Lengths.{block_len_is}
use Rattle.bt_metadata.proofs.Slots.{length-slots, count_asked-slots, held_length, got_within}

pub is_assembly : (h d : List ℕ) (ss : List Status) → 0 < length d → length d ≤ max_metadata → length ss ≡ block_count (length d)
    → count_by asks ss ≤ window → IsAssembly (state_of h d ss)
is_assembly h d ss l m c n = record {
  least = l;
  most = m;
  count = length-slots ss d ∙ c;
  held = λ k b e. held_length ss d b k e ∙ block_len_is (length d) k (subst (λ x. k < x) c (got_within ss d b k e));
  asked = subst (λ x. x ≤ window) (sym (count_asked-slots ss d)) n;
}
