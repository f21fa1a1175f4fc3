-- Digits that are put into a text, two and four at a time.
use Rattle.std.proofs.Common.{◌≡◌, ℕ, zero, suc, ◌+◌, ◌-◌, ◌*◌, ◌/◌, ◌%◌, ◌<◌, ◌≤◌, Bool, true, ◌&&◌, T, eqb, List, [], ◌∷◌, ◌++◌, length}
use Rattle.std.proofs.Common.{take, drop, set, get_or, sym, ap, ◌∙◌, inl, inr, arith, eq-zero-or-pos, eqb→eq, append_assoc, length-set}
use Rattle.std.proofs.lemmas.List.{take_more_set, take_at, take-append-drop, length-append, length-take-le}
use borrow.Rule.Slice.PartMut.{put_mid, post_of}
use lib.Ieee.Fits.{and_l, and_r}
use Rattle.bt_text.specs.declared.putting.TheConstants.{PAIRS}

abbrev are_pairs : ℕ → Bool
are_pairs zero = true
are_pairs (suc p) = (eqb (get_or PAIRS (p * 2) 0) (48 + p / 10) && eqb (get_or PAIRS (p * 2 + 1) 0) (48 + p % 10)) && are_pairs p

below : (n p : ℕ) → T (are_pairs n) → p < n → (get_or PAIRS (p * 2) 0 ≡ 48 + p / 10) × (get_or PAIRS (p * 2 + 1) 0 ≡ 48 + p % 10)
below zero p t h = absurd (omega arith)
below (suc n) p t h =
    elim (eq-zero-or-pos (n - p)) [
      | inl z ↦ let e : p ≡ n = omega arith in let a = and_l _ (are_pairs n) t in rw e (eqb→eq _ _ (and_l _ _ a), eqb→eq _ _ (and_r _ _ a))
      | inr g ↦ below n p (and_r _ (are_pairs n) t) (omega arith)
    ]

pub pair_at : (p : ℕ) → p < 100 → (get_or PAIRS (p * 2) 0 ≡ 48 + p / 10) × (get_or PAIRS (p * 2 + 1) 0 ≡ 48 + p % 10)
pair_at p h = below 100 p tt h

-- two bytes, one after the other
pub take_two : (xs : List ℕ) (i a b : ℕ) → i + 2 ≤ length xs → take (i + 2) (set (set xs i a) (i + 1) b) ≡ take i xs ++ (a ∷ b ∷ [])
take_two xs i a b h =
    let e : i + 2 ≡ i + 1 + 1 = omega arith in
    rw (e, take_more_set (set xs i a) (i + 1) b (omega (arith, length-set xs i a)), take_more_set xs i a (omega arith), append_assoc)

-- of a write to a part of a text, the text up to it and the first bytes of what was written
pub take_front : (a k m : ℕ) (xs ys : List ℕ) → a ≤ length xs → m ≤ length ys → take (a + m) (put_mid a k xs ys) ≡ take a xs ++ take m ys
take_front a k m xs ys inside short =
    let p = take a xs ++ take m ys in
    let whole : put_mid a k xs ys ≡ p ++ (drop m ys ++ post_of a k xs) =
    ap (λ (l : List ℕ). take a xs ++ (l ++ post_of a k xs)) (sym (take-append-drop m ys))
    ∙ ap (λ (l : List ℕ). take a xs ++ l) (append_assoc (take m ys) (drop m ys) (post_of a k xs))
    ∙ sym (append_assoc (take a xs) (take m ys) (drop m ys ++ post_of a k xs)) in
    let long : length p ≡ a + m =
    omega (arith, length-append (take a xs) (take m ys), length-take-le a xs inside, length-take-le m ys short) in
    ap (take (a + m)) whole ∙ take_at p (drop m ys ++ post_of a k xs) (a + m) long
