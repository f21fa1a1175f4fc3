-- Metadata as it comes. (For private contracts.)
use Rattle.std.specs.Prelude.{ℕ, ◌-◌, List, ◌++◌, length, replicate}

-- the metadata, with zeros for blocks that haven't come, and how many bytes of it are in memory
pub record Arrival : Type 0 where
  pub whole : List ℕ
  pub written : ℕ

-- with zeros up to a size
abbrev pub padded : ℕ → List ℕ → List ℕ
padded size bytes = bytes ++ replicate (size - length bytes) 0

-- nothing has come
abbrev pub unwritten : ℕ → Arrival
unwritten size = record { whole = replicate size 0; written = 0 }
