-- The list of addresses of a device.
use Rattle.std.specs.Prelude.{ℕ, Bool, true}

-- How many addresses are known, and how many may be known at most; whether these are all that come; and how often the device may still
-- say that more may come.
pub record Listing : Type 0 where
  pub known : ℕ
  pub most : ℕ
  pub is_all : Bool
  pub looks : ℕ

-- a list of so many addresses, to which none is added
abbrev pub fixed : ℕ → Listing
fixed n = record { known = n; most = n; is_all = true; looks = 0 }
