-- Hex text that is written in parts.
use Rattle.std.proofs.Common.{◌≡◌, ℕ, ◌+◌, ap, sym, ◌<◌, List, [], ◌∷◌, ◌++◌, length, refl, ◌∙◌, arith, append_assoc}
use Rattle.std.specs.Prelude.{codes}
use Rattle.std.proofs.lemmas.List.{length-append}
use Rattle.hex.specs.Hex.{encode_with, encode_lower, lower_digits}
use Rattle.bt_text.specs.Script.{hex_or_dash, spaced_hex}

pub encode_with-append : (t a b : List ℕ) → encode_with t (a ++ b) ≡ encode_with t a ++ encode_with t b
unfolding encode_with
encode_with-append t [] b = refl
encode_with-append t (x ∷ xs) b = rw (encode_with-append t xs b) refl

pub hex_of : (bytes : List ℕ) → 0 < length bytes → hex_or_dash bytes ≡ encode_lower bytes
hex_of [] some = absurd (omega arith)
hex_of (x ∷ xs) some = refl

regrouped : (o a f r e : List ℕ) → (((o ++ a) ++ f) ++ r) ++ e ≡ o ++ ((a ++ (f ++ r)) ++ e)
regrouped o a f r e = simp append_assoc

pub two_parts : (old front rest : List ℕ) → 0 < length front + length rest
    → (((old ++ codes " ") ++ encode_lower front) ++ encode_lower rest) ++ codes "\n" ≡ old ++ (spaced_hex (front ++ rest) ++ codes "\n")
two_parts old front rest some =
    let hex : hex_or_dash (front ++ rest) ≡ encode_lower front ++ encode_lower rest =
    hex_of (front ++ rest) (omega (arith, some, length-append front rest)) ∙ encode_with-append lower_digits front rest in
    regrouped old (codes " ") (encode_lower front) (encode_lower rest) (codes "\n")
    ∙ ap (λ (l : List ℕ). old ++ ((codes " " ++ l) ++ codes "\n")) (sym hex)
