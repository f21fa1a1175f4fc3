-- A wire between two ends: what is seen of it, and what a call of it does.
use Rattle.std.specs.Prelude.{◌≡◌, ℕ, ◌≤◌, List, length, take, Option, Result, Ok, Err}
use Rattle.std.specs.Io.KnownBytes.{Consumes, Appends, Keeps}
use Rattle.bt_io.specs.Counts.{one_more, counted, is_stuck}
use Rattle.bt_session.specs.declared.link.Side.{Side}
use Rattle.bt_session.specs.declared.link.Side.TheVariants.{Left, Right}

-- The bytes on their way to each side, where they are known. And how many calls were made, and how many of them failed or moved nothing
-- of what isn't empty, each up to 2^64 - 1.
pub record WireSeen : Type 0 where
  pub to_left : Option (List ℕ)
  pub to_right : Option (List ℕ)
  pub calls : ℕ
  pub failed : ℕ

abbrev pub other : Side → Side
other Left = Right
other Right = Left

-- the bytes on their way to this side
abbrev pub coming : Side → WireSeen → Option (List ℕ)
coming Left s = s.to_left
coming Right s = s.to_right

-- a call was made that moved so many bytes, or failed, with room for this many
pub record IsCall {E : Type 0} (old new : WireSeen) (result : Result ℕ E) (room : ℕ) : Type 0 where
  pub calls : new.calls ≡ one_more old.calls
  pub failed : new.failed ≡ counted (is_stuck result room) old.failed

-- the first n bytes were taken from this side, and no others
abbrev pub Sends : {E : Type 0} → Side → WireSeen → WireSeen → Result ℕ E → List ℕ → Type 0
Sends from old new (Ok n) bytes =
    (n ≤ length bytes) × Appends (coming (other from) old) (coming (other from) new) (take n bytes) × (coming from new ≡ coming from old)
Sends from old new (Err e) bytes = Keeps (coming (other from) old) (coming (other from) new) × (coming from new ≡ coming from old)

-- the first n bytes of the buffer came to this side, and no others
abbrev pub Receives : {E : Type 0} → Side → WireSeen → WireSeen → Result ℕ E → List ℕ → Type 0
Receives at old new (Ok n) buffer =
    (n ≤ length buffer) × Consumes (coming at old) (coming at new) (take n buffer) × (coming (other at) new ≡ coming (other at) old)
Receives at old new (Err e) buffer = Keeps (coming at old) (coming at new) × (coming (other at) new ≡ coming (other at) old)
