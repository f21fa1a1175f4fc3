-- The distance of two ids. BEP 5, "Overview": "the distance metric is XOR and the result is interpreted as an unsigned integer.
-- distance(A,B) = |A xor B| Smaller values are closer."
use Rattle.std.specs.Prelude.{ℕ, ◌+◌, ◌*◌, List, [], ◌∷◌, fold, bit_xor}

-- the bytes of A xor B
abbrev pub xor_of : List ℕ → List ℕ → List ℕ
xor_of [] ys = []
xor_of (x ∷ xs) [] = []
xor_of (x ∷ xs) (y ∷ ys) = bit_xor x y ∷ xor_of xs ys

-- the unsigned integer of bytes, the high one first
abbrev pub number_of : List ℕ → ℕ
number_of bytes = fold (λ n b. n * 256 + b) 0 bytes

abbrev pub distance_of : List ℕ → List ℕ → ℕ
distance_of a b = number_of (xor_of a b)
