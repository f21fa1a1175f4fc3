-- Numbers in the radix 32, and lists of five.
use Rattle.std.proofs.Common.{◌≡◌, ℕ, List, [], ◌∷◌, ◌++◌, Some, None, fold, length, get_or, refl, ap, ◌∙◌, arith}
use Rattle.std.proofs.Common.{eq-eqb, take, drop}
use Rattle.std.proofs.lemmas.Bool.{cond-true}
use Rattle.bt_magnet.specs.Base32.{extended, base32_of, five_of, joined}

pub fold_none : (xs : List ℕ) → fold extended None xs ≡ None
fold_none [] = refl
fold_none (x ∷ xs) = fold_none xs

pub five_items : (xs : List ℕ) → length xs ≡ 5 → get_or xs 0 0 ∷ get_or xs 1 0 ∷ get_or xs 2 0 ∷ get_or xs 3 0 ∷ get_or xs 4 0 ∷ [] ≡ xs
five_items [] e = absurd (omega (arith, e))
five_items (a ∷ []) e = absurd (omega (arith, e))
five_items (a ∷ b ∷ []) e = absurd (omega (arith, e))
five_items (a ∷ b ∷ c ∷ []) e = absurd (omega (arith, e))
five_items (a ∷ b ∷ c ∷ d ∷ []) e = absurd (omega (arith, e))
five_items (a ∷ b ∷ c ∷ d ∷ f ∷ []) e = refl
five_items (a ∷ b ∷ c ∷ d ∷ f ∷ g ∷ rest) e = absurd (omega (arith, e))

abbrev pub items : List ℕ → List ℕ
items xs = get_or xs 0 0 ∷ get_or xs 1 0 ∷ get_or xs 2 0 ∷ get_or xs 3 0 ∷ get_or xs 4 0 ∷ []

-- the items of four such lists, one after the other
pub twenty_items : (a b c d : List ℕ) → length a ≡ 5 → length b ≡ 5 → length c ≡ 5 → length d ≡ 5
    → Some ((items a ++ items b) ++ (items c ++ items d)) ≡ Some ((a ++ b) ++ (c ++ d))
twenty_items a b c d la lb lc ld =
    ap (λ x. Some ((x ++ items b) ++ (items c ++ items d))) (five_items a la) ∙ ap (λ x. Some ((a ++ x) ++ (items c ++ items d))) (five_items b lb)
    ∙ ap (λ x. Some ((a ++ b) ++ (x ++ items d))) (five_items c lc) ∙ ap (λ x. Some ((a ++ b) ++ (c ++ x))) (five_items d ld)

-- by the four groups
pub base32_by : (t a b c d : List ℕ) → length t ≡ 32 → five_of (take 8 t) ≡ Some a → five_of (take 8 (drop 8 t)) ≡ Some b
    → five_of (take 8 (drop 16 t)) ≡ Some c
    → five_of (take 8 (drop 24 t)) ≡ Some d → base32_of t ≡ Some ((a ++ b) ++ (c ++ d))
base32_by t a b c d l ha hb hc hd =
    cond-true _ _ _ (eq-eqb (length t) 32 l)
    ∙ (λ i. joined (joined (ha i) (hb i)) (joined (hc i) (hd i)))
