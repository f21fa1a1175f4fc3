-- What the definition on label stacks gives, case by case.
use Rattle.std.proofs.Common.{◌≡◌, ℕ, ◌-◌, ◌<◌, ◌≤◌, Bool, true, false, List, [], ◌∷◌, length, get_or, take, drop, if◌then◌else◌}
use Rattle.std.proofs.Common.{Some, None, refl, ◌∙◌, arith}
use Rattle.std.proofs.lemmas.List.{take_rest}
use Rattle.bt_packet.specs.Links.{is_bottom, unlabelled}

pub labels_cut : (p : List ℕ) → length p < 4 → unlabelled p ≡ None
unfolding unlabelled
labels_cut (a ∷ b ∷ c ∷ d ∷ rest) short = absurd (omega arith)
labels_cut _ short = refl

-- an entry
pub label_is : (p : List ℕ) (last : Bool) → 4 ≤ length p → last ≡ is_bottom (get_or p 2 0)
    → unlabelled p ≡ (if last then Some (take (length p - 4) (drop 4 p)) else unlabelled (take (length p - 4) (drop 4 p)))
unfolding unlabelled
label_is (a ∷ b ∷ c ∷ d ∷ rest) last enough e = rw (e, take_rest (a ∷ b ∷ c ∷ d ∷ rest) 4) refl
label_is (a ∷ b ∷ c ∷ []) last enough e = absurd (omega arith)
label_is (a ∷ b ∷ []) last enough e = absurd (omega arith)
label_is (a ∷ []) last enough e = absurd (omega arith)
label_is [] last enough e = absurd (omega arith)

pub label_next : (last next : Bool) (from p : List ℕ) → last ≡ false → unlabelled from ≡ (if last then Some p else unlabelled p) → 4 ≤ length p
    → next ≡ is_bottom (get_or p 2 0)
    → unlabelled from ≡ (if next then Some (take (length p - 4) (drop 4 p)) else unlabelled (take (length p - 4) (drop 4 p)))
label_next true next from p e i enough n = absurd cc
label_next false next from p e i enough n = i ∙ label_is p next enough n
