-- When a connection's opening is over, and by which receiver a side's stream is judged then.
use Rattle.std.specs.Prelude.{◌≡◌, ◌↔◌, ℕ, Bool, true, false, ◌||◌, ◌&&◌, not, List, Option, Some, None, IsTrue}
use Rattle.bt_ext.specs.Ids.{registered}
use Rattle.bt_ext.specs.declared.ids.Rules.TheVariants.{Free}
use Rattle.bt_wire.specs.declared.context.Own.{Own}
use Rattle.bt_wire.specs.declared.handshake.Handshake.{Handshake}
use Rattle.bt_wire.specs.Handshakes.{sets_extension}
use Rattle.bt_wire.specs.Streams.{Outcome}
use Rattle.bt_jobs.specs.declared.other.Announced.{Announced}
use Rattle.bt_jobs.specs.Others.{first_of}
use Rattle.bt_intro.specs.declared.settling.Receiver.{Receiver}
use Rattle.bt_intro.specs.declared.settling.Side.{Side}
use Rattle.bt_intro.specs.Hellos.{IsOfStranger}
use Rattle.bt_intro.specs.Listening.{handshake_of}
use Rattle.bt_intro.specs.Hearing.{IsSaid, HasSaidAll}

-- how far a side has described itself, by its front
pub record IsSideOf (front : List ℕ) (side : Side) : Type 0 where
  pub handshake : (v : Outcome) × IsSaid front v × (side.handshake ≡ first_of handshake_of v.items)
  pub all : (v : Outcome) × IsSaid front v × (IsTrue side.has_said_all ↔ HasSaidAll v)
  pub stranger : IsTrue side.is_stranger ↔ IsOfStranger front

-- The Extension Protocol is used if both set its bit (BEP 10); then both tell of themselves in an extended handshake.
abbrev pub have_both_told : Handshake → Handshake → Bool → Bool
have_both_told a b said = not (sets_extension a.reserved && sets_extension b.reserved) || said

abbrev pub is_settled_by : Option Handshake → Option Handshake → Side → Side → Bool
is_settled_by (Some h) (Some k) a b = have_both_told h k (a.has_said_all && b.has_said_all)
is_settled_by (Some h) None a b = b.is_stranger
is_settled_by None (Some k) a b = a.is_stranger
is_settled_by None None a b = a.is_stranger && b.is_stranger

-- the opening of a connection of these sides is over
abbrev pub is_settled : Side → Side → Bool
is_settled a b = is_settled_by a.handshake b.handshake a b

-- the receiver that announces this; it accepts every info hash, under the lenient rules
abbrev pub own_by : Announced → Option ℕ → ℕ → Own
own_by said pieces limit = record {
  reserved = said.reserved;
  info_hash = None;
  pieces = pieces;
  reg = registered said.metadata said.donthave;
  rules = Free;
  limit = limit;
}

-- The receiver of the second side's stream is the first side as it announces itself. Without a handshake of the first side that is
-- a guess: the second side's own extensions, and no ids.
abbrev pub receiver_by : Option Announced → Option Announced → Option ℕ → ℕ → Option Receiver
receiver_by other None pieces limit = None
receiver_by (Some said) (Some own) pieces limit = Some (record { own = own_by said pieces limit; is_guessed = false })
receiver_by None (Some own) pieces limit =
    Some (record { own = own_by (record own { metadata = None; donthave = None }) pieces limit; is_guessed = true })
