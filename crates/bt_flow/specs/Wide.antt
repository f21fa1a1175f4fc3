-- A window with bytes that wait far after the next one.
use Rattle.std.specs.Prelude.{◌≡◌, ℕ, ◌+◌, ◌<◌, ◌≤◌, Bool, true, false, List, ◌++◌, length, Option}
use Rattle.bt_tcp.specs.Segments.{or_else}
use Rattle.bt_flow.specs.Memory as ring
use Rattle.bt_flow.specs.Pages.{byte_of}
use Rattle.bt_flow.specs.Views.{TakesIn}
use Rattle.bt_flow.specs.declared.window.Window.{Window}
use Rattle.bt_flow.specs.declared.wide.WideWindow.{WideWindow}

abbrev pub next_of : WideWindow → ℕ
next_of w = ring.next_of w.window

-- the bytes of a ring from a place on, and those that are far
abbrev pub either_of : (ℕ → Option ℕ) → (ℕ → Option ℕ) → ℕ → ℕ → Option ℕ
either_of near far next k = or_else (near k) (far (next + k))

-- the bytes from the next place on
abbrev pub seen : WideWindow → ℕ → Option ℕ
seen w = either_of (ring.seen w.window) (byte_of w.far.pages) (ring.next_of w.window)

abbrev pub capacity_of : WideWindow → ℕ
capacity_of w = ring.capacity_of w.window

-- With no byte ahead it has at most 65,536 places.
abbrev pub KeepsLittle : Window → Type 0
KeepsLittle w = w.ring.end ≤ ring.next_of w → ring.capacity_of w ≤ 65536

-- A segment was taken, and all that it makes ready was appended.
pub record AppendsAll (at : ℕ) (bytes : List ℕ) (next : ℕ) (ahead : ℕ → Option ℕ) (later : List ℕ) (next' : ℕ) (ahead' : ℕ → Option ℕ)
    (later' : List ℕ) : Type 0 where
  pub more : List ℕ
  pub is : later' ≡ later ++ more
  pub taken : TakesIn at bytes next ahead more next' ahead'

-- It isn't taken only if it ends more than 15 MiB past the next place.
abbrev pub TakesAll : ℕ → List ℕ → ℕ → (ℕ → Option ℕ) → List ℕ → Bool → ℕ → (ℕ → Option ℕ) → List ℕ → Type 0
TakesAll at bytes next ahead later true next' ahead' later' = AppendsAll at bytes next ahead later next' ahead' later'
TakesAll at bytes next ahead later false next' ahead' later' = (next + 15728640 < at + length bytes) × (next' ≡ next) × (later' ≡ later)
