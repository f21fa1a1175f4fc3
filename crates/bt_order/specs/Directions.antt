-- What a direction knows of the packets that came.
use Rattle.std.specs.Prelude.{◌≡◌, ℕ, ◌+◌, ◌-◌, ◌<◌, ◌≤◌, ◌%◌, ◌^◌, Bool, true, false, List, [], ◌∷◌, ◌++◌, length, Option, Some, None}
use Rattle.bt_order.specs.declared.direction.Course.{Course}
use Rattle.bt_order.specs.declared.direction.Course.TheVariants.{Open, Finished, Cut, Lost}
use Rattle.bt_order.specs.declared.direction.Direction.{Direction}
use Rattle.bt_order.specs.declared.held.Payload.{Payload}
use Rattle.bt_order.specs.Numbers.{IsNearestNumber, IsInReach}
use Rattle.bt_order.specs.Streams.{Packet, packet_at, is_cut, is_last, IsGoing, payloads, utp_stream, has_fin}
use Rattle.bt_order.specs.Held.{held_at, packet_with, HasNoRoom}

-- All packets before `next` are there, and these are their payloads.
pub record IsReached (at : ℕ → Option Packet) (out : List ℕ) (next : ℕ) : Type 0 where
  pub first : 65536 ≤ next
  pub there : (i : ℕ) → 65536 ≤ i → i < next → IsGoing (at i)
  pub is : out ≡ payloads at (next - 65536) 65536

-- The packet before `next` ends the stream, and these are the payloads up to it.
pub record IsEnded (at : ℕ → Option Packet) (out : List ℕ) (next : ℕ) (cut : Bool) : Type 0 where
  pub place : ℕ
  pub first : 65536 ≤ place
  pub after : next ≡ place + 1
  pub there : (i : ℕ) → 65536 ≤ i → i < place → IsGoing (at i)
  pub last : Packet
  pub ended : at place ≡ Some last
  pub ends : is_last last ≡ true
  pub tells : is_cut last ≡ cut
  pub is : out ≡ payloads at (place - 65536) 65536 ++ last.bytes

-- The packets from an index on are held that came, and no others.
pub record HoldsFrom (next : ℕ) (at held : ℕ → Option Packet) : Type 0 where
  pub later : (i : ℕ) → next ≤ i → held i ≡ at i
  pub none : (i : ℕ) → i < next → held i ≡ None

abbrev pub IsPassed : (ℕ → Option Packet) → List ℕ → Course → ℕ → (ℕ → Option Packet) → Type 0
IsPassed at out Open next held = IsReached at out next × HoldsFrom next at held
IsPassed at out Finished next held = IsEnded at out next false
IsPassed at out Cut next held = IsEnded at out next true
IsPassed at out Lost next held = Unit {0}

abbrev pub is_open : Course → Bool
is_open Open = true
is_open course = false

abbrev pub is_finished : Course → Bool
is_finished Finished = true
is_finished course = false

abbrev pub is_lost : Course → Bool
is_lost Lost = true
is_lost course = false

-- The packets were passed in turn, and these bytes were handed out.
abbrev pub Has : (ℕ → Option Packet) → List ℕ → Direction → Type 0
Has at out d = IsPassed at out d.course d.next (held_at d.held)

-- These packets came, and these bytes were handed out: the whole stream, until a packet was out of reach, and from then on a front of it.
pub record IsDirectionOf (ps : List Packet) (out : List ℕ) (d : Direction) : Type 0 where
  pub state : Has (packet_at ps) out d
  pub awaited : is_open d.course ≡ true → packet_at ps d.next ≡ None
  pub front : (more : List ℕ) × (utp_stream ps ≡ out ++ more)
  pub exact : is_lost d.course ≡ false → utp_stream ps ≡ out
  pub ends : is_lost d.course ≡ false → has_fin ps ≡ is_finished d.course
  pub place : d.place ≡ (d.base + length out) % 2 ^ 32
  pub free : is_open d.course ≡ false → d.held.counted ≡ 0

-- The numbers and the places begin where they did.
pub record SameStart (old new : Direction) : Type 0 where
  pub first : new.first ≡ old.first
  pub base : new.base ≡ old.base

-- Payloads were handed out, of packets that follow each other.
pub record Passes (old : Direction) (given : List ℕ) (new : Direction) (given' : List ℕ) : Type 0 where
  pub more : List ℕ
  pub is : given' ≡ given ++ more
  pub start : SameStart old new
  pub place : (start : ℕ) → old.place ≡ start % 2 ^ 32 → new.place ≡ (start + length more) % 2 ^ 32
  pub counted : new.held.counted ≤ old.held.counted
  pub found : is_lost old.course ≡ false → is_lost new.course ≡ false
  pub passed : (at : ℕ → Option Packet) (before : List ℕ) → Has at before old → Has at (before ++ more) new

-- No packets are held if no more may be taken.
pub record Settles (old new : Direction) : Type 0 where
  pub start : SameStart old new
  pub course : new.course ≡ old.course
  pub next : new.next ≡ old.next
  pub place : new.place ≡ old.place
  pub counted : new.held.counted ≤ old.held.counted
  pub kept : is_open old.course ≡ true → new.held ≡ old.held
  pub free : is_open old.course ≡ false → new.held.counted ≡ 0

-- A packet was taken, and these bytes came next.
pub record Takes (p : Packet) (old : Direction) (given : List ℕ) (new : Direction) (given' : List ℕ) : Type 0 where
  pub more : List ℕ
  pub is : given' ≡ given ++ more
  pub start : SameStart old new
  pub taken : (ps : List Packet) (out : List ℕ) → IsDirectionOf ps out old → IsDirectionOf (ps ++ p ∷ []) (out ++ more) new

-- Nothing changed.
pub record Stays (old : Direction) (given : List ℕ) (new : Direction) (given' : List ℕ) : Type 0 where
  pub is : given' ≡ given
  pub start : SameStart old new
  pub counted : new.held.counted ≡ old.held.counted
  pub kept : (ps : List Packet) (out : List ℕ) → IsDirectionOf ps out old → IsDirectionOf ps out new

-- A packet that has no room counts as one that wasn't captured.
pub record LeavesOut (size room : ℕ) (old : Direction) (given : List ℕ) (new : Direction) (given' : List ℕ) : Type 0 where
  pub full : HasNoRoom old.held.counted room size
  pub stays : Stays old given new given'

-- A packet with this number was taken, or there was no room for it.
abbrev pub TakesNumber : ℕ → Payload → ℕ → Bool → Direction → List ℕ → Direction → List ℕ → Type 0
TakesNumber number payload room true old given new given' =
    (i : ℕ) → IsNearestNumber old.first old.next number i → Takes (packet_with i payload) old given new given'
TakesNumber number payload room false old given new given' = LeavesOut (length payload.bytes.now) room old given new given'

-- The gap before the next packet became final only since a packet was out of reach.
abbrev pub LosesByReach : ℕ → Direction → Direction → Type 0
LosesByReach number old new = is_lost old.course ≡ false → is_lost new.course ≡ true
    → (i : ℕ) → IsNearestNumber old.first old.next number i → IsInReach old.next i → ⊥
