-- What a feed's buffer holds. (For private contracts.)
use Rattle.std.specs.Prelude.{ℕ, List}

-- the bytes that are held, and how many there is room for
pub record Room : Type 0 where
  pub items : List ℕ
  pub capacity : ℕ
