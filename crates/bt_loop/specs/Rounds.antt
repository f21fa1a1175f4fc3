-- Two ends over a wire: what goes one way, a round, and a whole run.
use Rattle.std.specs.Prelude.{◌≡◌, ◌⊎◌, ℕ, zero, suc, ◌+◌, ◌-◌, ◌^◌, ◌≤◌, ◌<◌, ◌==◌, ◌&&◌, min, Bool, true, false, List, [], length, take, Option, Result, Ok}
use Rattle.std.specs.Prelude.{Err, ⊤}
use Rattle.std.specs.Io.KnownBytes.{Consumes, Appends}
use Rattle.bt_io.specs.Counts.{Grew}
use Rattle.bt_end.specs.Halves.{HalfState, AreHandled, without_sent}
use Rattle.bt_end.specs.declared.end.TurnError.{TurnError}
use Rattle.bt_end.specs.declared.end.TurnError.TheVariants as turn_error
use Rattle.bt_session.specs.declared.link.Side.{Side}
use Rattle.bt_session.specs.declared.link.Side.TheVariants.{Left, Right}
use Rattle.bt_loop.specs.Wires.{WireSeen, other, coming}
use Rattle.bt_loop.specs.declared.both.Handled.{Handled}
use Rattle.bt_loop.specs.declared.both.Halt.{Halt}
use Rattle.bt_loop.specs.declared.both.Halt.TheVariants as halt

-- a count stays at 2^64 - 1
abbrev pub capped : ℕ → ℕ
capped n = min n (2 ^ 64 - 1)

-- both ends, how many items each handled, and what is seen of the wire between them
pub record Ends : Type 0 where
  pub seen : WireSeen
  pub left : HalfState
  pub right : HalfState
  pub left_items : ℕ
  pub right_items : ℕ

abbrev pub ends_of : WireSeen → HalfState → HalfState → ℕ → ℕ → Ends
ends_of s left right m n = record { seen = s; left = left; right = right; left_items = m; right_items = n }

-- no end has anything to send
abbrev pub is_quiet : HalfState → HalfState → Bool
is_quiet left right = (length left.outbox == 0) && (length right.outbox == 0)

-- ---- one way

-- Bytes were sent from a side, which was `a`, by one call, and received at the other one, which was `b`, by as many calls as it took,
-- one at least. No call failed. The bytes were given to the receiver, which handled `items` items in them and stopped so.
pub record IsCarried (from : Side) (stop : Result Unit TurnError) (s t : WireSeen) (a a' b b' : HalfState) (items : ℕ) : Type 0 where
  pub bytes : List ℕ
  pub least : 1 ≤ length bytes
  pub most : length bytes ≤ min 4096 (length a.outbox)
  pub sent : a' ≡ without_sent (length bytes) a
  pub middle : Option (List ℕ)
  pub goes : Appends (coming (other from) s) middle (take (length bytes) a.outbox)
  pub comes : Consumes middle (coming (other from) t) bytes
  pub back : coming from t ≡ coming from s
  pub calls : capped (s.calls + 2) ≤ t.calls
  pub calm : t.failed ≡ s.failed
  pub ends : List HalfState
  pub used : ℕ
  pub handled : AreHandled ends b bytes used stop b'
  pub all : stop ≡ Ok tt → used ≡ length bytes
  pub count : items ≡ length ends

-- the sender has nothing to send, and no call was made
pub record IsSkipped (s t : WireSeen) (a a' b b' : HalfState) (items : ℕ) : Type 0 where
  pub empty : a.outbox ≡ []
  pub seen : t ≡ s
  pub sender : a' ≡ a
  pub receiver : b' ≡ b
  pub none : items ≡ 0

-- what one way does, after which the run goes on
abbrev pub IsWay : Side → (s t : WireSeen) → (a a' b b' : HalfState) → ℕ → Type 0
IsWay from s t a a' b b' items = IsCarried from (Ok tt) s t a a' b b' items ⊎ IsSkipped s t a a' b b' items

-- out of memory a run ends otherwise
abbrev pub is_halt : TurnError → Bool
is_halt turn_error.Memory = false
is_halt other = true

-- the receiver refused what came, or too much waited to be sent there
abbrev pub IsHalt : Side → (s t : WireSeen) → (a a' b b' : HalfState) → Type 0
IsHalt from s t a a' b b' = (e : TurnError) × (items : ℕ) × (is_halt e ≡ true) × IsCarried from (Err e) s t a a' b b' items

-- ---- rounds

-- from left to right, and then from right to left; one of them had something to send
pub record IsRound (s t : WireSeen) (l l' r r' : HalfState) (at_left at_right : ℕ) : Type 0 where
  pub some : is_quiet l r ≡ false
  pub seen : WireSeen
  pub left : HalfState
  pub right : HalfState
  pub goes : IsWay Left s seen l left r right at_right
  pub comes : IsWay Right seen t right r' left l' at_left

-- a round that an end stopped: the right one, or the left one
abbrev pub IsHalted : (s t : WireSeen) → (l l' r r' : HalfState) → Type 0
IsHalted s t l l' r r' = IsHalt Left s t l l' r r'
    ⊎ ((seen : WireSeen) × (left right : HalfState) × (items : ℕ) × IsWay Left s seen l left r right items × IsHalt Right seen t right r' left l')

-- n rounds, each of which moved a byte at least
abbrev pub AreRounds : ℕ → Ends → Ends → Type 0
AreRounds zero old new = new ≡ old
AreRounds (suc n) old new = (middle : Ends) × AreRounds n old middle × (at_left : ℕ) × (at_right : ℕ)
    × IsRound middle.seen new.seen middle.left new.left middle.right new.right at_left at_right
    × (new.left_items ≡ middle.left_items + at_left) × (new.right_items ≡ middle.right_items + at_right)

-- What at most this many rounds make of both. With `Ok` no end has anything to send, and no call followed after that.
abbrev pub IsRun : ℕ → Ends → Ends → Result Handled Halt → Type 0
IsRun rounds old new (Ok h) = (n : ℕ) × (n ≤ rounds) × AreRounds n old new × (is_quiet new.left new.right ≡ true)
    × (h.left ≡ capped new.left_items) × (h.right ≡ capped new.right_items)
IsRun rounds old new (Err halt.Stopped) =
    (n : ℕ) × (n < rounds) × (middle : Ends) × AreRounds n old middle × IsHalted middle.seen new.seen middle.left new.left middle.right new.right
IsRun rounds old new (Err halt.Rounds) = AreRounds rounds old new × (is_quiet new.left new.right ≡ false)
IsRun rounds old new (Err halt.Net) = Grew old.seen.failed new.seen.failed
IsRun rounds old new (Err halt.Memory) = new.seen.failed ≡ old.seen.failed

-- the same, from two ends that handled nothing yet
abbrev pub HasRun : ℕ → (s t : WireSeen) → (l l' r r' : HalfState) → Result Handled Halt → Type 0
HasRun rounds s t l l' r r' result = (m : ℕ) × (n : ℕ) × IsRun rounds (ends_of s l r 0 0) (ends_of t l' r' m n) result

-- ---- for private contracts

-- bytes of the sender's were taken
pub record IsSent (from : Side) (s t : WireSeen) (a a' : HalfState) (n : ℕ) : Type 0 where
  pub least : 1 ≤ n
  pub most : n ≤ min 4096 (length a.outbox)
  pub sent : a' ≡ without_sent n a
  pub goes : Appends (coming (other from) s) (coming (other from) t) (take n a.outbox)
  pub back : coming from t ≡ coming from s
  pub calls : capped (s.calls + 1) ≤ t.calls
  pub calm : t.failed ≡ s.failed

-- all of the buffer was filled
pub record IsFilled (at : Side) (s t : WireSeen) (bytes : List ℕ) : Type 0 where
  pub comes : Consumes (coming at s) (coming at t) bytes
  pub back : coming (other at) t ≡ coming (other at) s
  pub calls : 1 ≤ length bytes → capped (s.calls + 1) ≤ t.calls
  pub least : capped s.calls ≤ t.calls
  pub calm : t.failed ≡ s.failed

-- an end was given bytes, and handled `items` items in them
pub record IsTaken (b : HalfState) (bytes : List ℕ) (items : ℕ) (stop : Result Unit TurnError) (b' : HalfState) : Type 0 where
  pub ends : List HalfState
  pub used : ℕ
  pub handled : AreHandled ends b bytes used stop b'
  pub all : stop ≡ Ok tt → used ≡ length bytes
  pub count : items ≡ capped (length ends)

-- what one way does, and what it answers
abbrev pub Passes : Side → (s t : WireSeen) → (a a' b b' : HalfState) → Result ℕ Halt → Type 0
Passes from s t a a' b b' (Ok k) = (items : ℕ) × (k ≡ capped items) × IsWay from s t a a' b b' items
Passes from s t a a' b b' (Err halt.Stopped) = IsHalt from s t a a' b b'
Passes from s t a a' b b' (Err halt.Rounds) = ⊥
Passes from s t a a' b b' (Err halt.Net) = Grew s.failed t.failed
Passes from s t a a' b b' (Err halt.Memory) = t.failed ≡ s.failed

-- what a round does, and what it answers
abbrev pub Exchanges : (s t : WireSeen) → (l l' r r' : HalfState) → Result Handled Halt → Type 0
Exchanges s t l l' r r' (Ok h) = (m : ℕ) × (n : ℕ) × (h.left ≡ capped m) × (h.right ≡ capped n) × IsRound s t l l' r r' m n
Exchanges s t l l' r r' (Err halt.Stopped) = IsHalted s t l l' r r'
Exchanges s t l l' r r' (Err halt.Rounds) = ⊥
Exchanges s t l l' r r' (Err halt.Net) = Grew s.failed t.failed
Exchanges s t l l' r r' (Err halt.Memory) = t.failed ≡ s.failed

-- what a turn's error makes of a run
abbrev pub halt_of : TurnError → Halt
halt_of turn_error.Memory = halt.Memory
halt_of other = halt.Stopped
