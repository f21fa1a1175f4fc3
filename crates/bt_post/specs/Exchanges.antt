-- What an exchange over HTTP moves.
use Rattle.std.specs.Prelude.{◌≡◌, ◌++◌, ℕ, List, Option}
use Rattle.std.specs.Io.KnownBytes.{Consumes}

-- the bytes that the stream lost are those that the answer got, in order
abbrev pub IsRead : Option (List ℕ) → Option (List ℕ) → List ℕ → List ℕ → Type 0
IsRead coming coming' answer answer' = (more : List ℕ) × Consumes coming coming' more × (answer' ≡ answer ++ more)
