-- Whether a tree is sorted, by its first misplaced key.
use Rattle.std.proofs.Common.{◌≡◌, ℕ, Bool, true, false, not, Option, Some, None, is_some, IsTrue, ◌↔◌, refl}
use Rattle.bt_bencode.specs.Trees.{Tree}
use Rattle.bt_bencode.specs.Keys.{unsorted, IsSorted}
use Rattle.bt_bencode.proofs.LawProofs.{sorted_has_none}

there : (o : Option ℕ) → (o ≡ None → ⊥) → true ≡ is_some o
there None h = absurd (h refl)
there (Some n) h = refl

pub unsorted_test : (b : Bool) (t : Tree) → IsTrue b ↔ IsSorted t → not b ≡ is_some (unsorted t)
unsorted_test true t h = let none = (sorted_has_none t).1 (h.0 refl) in rw none refl
unsorted_test false t h = there (unsorted t) (λ e. let f : IsTrue false = h.1 ((sorted_has_none t).0 e) in cc)
