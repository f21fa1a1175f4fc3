-- Numbers by which some bytes of two keys are compared at once. (For the contracts of functions that are not public.)
use Rattle.std.specs.Prelude.{◌≡◌, ℕ, ◌+◌, ◌*◌, ◌<◌, List, [], ◌∷◌, take, ⊤}

-- the number that the bytes are in big-endian order, after those of n
abbrev pub joined : ℕ → List ℕ → ℕ
joined n [] = n
joined n (x ∷ xs) = joined (n * 256 + x) xs

-- each is the number of a byte
abbrev pub AreBytes : List ℕ → Type 0
AreBytes [] = ⊤
AreBytes (x ∷ xs) = (x < 256) × AreBytes xs

-- the number of the first k bytes
pub record IsWord (k : ℕ) (bytes : List ℕ) (n : ℕ) : Type 0 where
  pub value : n ≡ joined 0 (take k bytes)
  pub fit : AreBytes (take k bytes)
