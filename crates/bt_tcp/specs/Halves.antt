-- What is kept of one direction, and what it says of what was captured.
use Rattle.std.specs.Prelude.{◌≡◌, ℕ, ◌^◌, List, [], ◌∷◌, ◌++◌, Some}
use Rattle.bt_tcp.specs.declared.halves.Half.{Half}
use Rattle.bt_tcp.specs.Heard.{Heard, zero_of, opening_of, end_of, acked_of, has_ack, high_of, fin_of, IsPlaced}

-- This is what is kept of what was captured.
pub record IsHalf (heard : List Heard) (half : Half) : Type 0 where
  pub zero : half.zero ≡ zero_of heard
  pub opening : half.opening ≡ opening_of heard
  pub «end» : half.end ≡ end_of heard
  pub acked : half.acked ≡ acked_of heard
  pub is_acked : half.is_acked ≡ has_ack heard
  pub fin : half.fin ≡ fin_of heard
  pub high : half.high ≡ high_of heard
  pub placed : (zero_number : ℕ) → zero_of heard ≡ Some zero_number → IsPlaced zero_number (2 ^ 40) heard

-- One more was captured.
abbrev pub HearsMore : Half → Heard → Half → Type 0
HearsMore half e half' = (heard : List Heard) → IsHalf heard half → IsHalf (heard ++ e ∷ []) half'
