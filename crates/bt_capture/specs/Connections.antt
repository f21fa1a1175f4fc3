-- A connection of a capture, by the segments that it took.
use Rattle.bt_talk.specs.declared.terms.Terms.{Terms}
use Rattle.std.specs.Prelude.{◌≡◌, ◌⊎◌, Bool, true, false, not, ◌&&◌, List, [], ◌∷◌, ◌++◌}
use Rattle.std.specs.List.{All, list_any}
use Rattle.bt_flow.specs.Flows.{high_in}
use Rattle.bt_packet.specs.Tcp.{segment}
use Rattle.bt_packet.specs.declared.tcp.Segment.{Segment}
use Rattle.bt_remarks.specs.declared.events.Side.{Side}
use Rattle.bt_tcp.specs.Heard.{opening_of}
use Rattle.bt_talk.specs.Pasts.{Past, no_past}
use Rattle.bt_talk.specs.Ends.{ends_by}
use Rattle.bt_talk.specs.Closing.{is_quiet, opens_by}
use Rattle.bt_talk.specs.Shown.{Turn}
use Rattle.bt_talk.specs.Strays.{IsStrayReset, heeded}
use Rattle.bt_talk.specs.Talks.{HasHeard, IsBegun, IsSender, IsTalk, Takes, ends_of, flow_of, of_side, terms_of, closing_of, is_in_opening, is_lost}
use Rattle.bt_talk.specs.Talks.{AreOpened, marks_of, turn_by}
use Rattle.bt_talk.specs.declared.closing.When.{When}
use Rattle.bt_talk.specs.declared.talk.Talk.{Talk}
use Rattle.bt_capture.specs.Arrivals.{Arrival, has_data}
use Rattle.bt_capture.specs.declared.connection.Connection.{Connection}

-- ---- whose segment

-- The segment is a SYN that begins another connection between the same ends, or it isn't. A stray RST never is.
pub record Opens (x : Arrival) (a b : Past) (t : Talk) (opens : Bool) : Type 0 where
  pub s : Segment
  pub is : segment s ≡ x.segment
  pub side : Side
  pub is_side : IsSender s t side
  pub stray : Bool
  pub is_stray : IsStrayReset s (of_side side a b) stray
  pub opens_is : opens ≡ opens_by (heeded stray s.flags) (high_in (of_side side a b).heard (flow_of side t).stream) (opening_of (of_side side a b).heard) s.sequence

-- The connection had ended, and no segment of it came in the four seconds before this one.
abbrev pub is_late : Arrival → Talk → Bool
is_late x t = is_quiet (closing_of t).over x.when.nanos

-- A segment between the same ends begins another connection, or it belongs to this one.
abbrev pub Begins : Bool → Arrival → Past → Past → Talk → Type 0
Begins true x a b t = (is_late x t ≡ true) ⊎ Opens x a b t true
Begins false x a b t = (is_late x t ≡ false) × Opens x a b t false

-- The segment is the connection's first, or belongs to it.
abbrev pub MayTake : Bool → Arrival → Past → Past → Talk → Type 0
MayTake true x a b t = Unit {0}
MayTake false x a b t = Begins false x a b t

-- ---- the segments that it took

-- With a segment that the connection took come these turns, the newest first. In the opening there are none; at its end come those of its marks, and
-- after it each segment has one.
pub record HasTurned (s : Segment) (when : When) (a b : Past) (t t' : Talk) (took : Takes s when a b t t') (turns turns' : List Turn) : Type 0 where
  pub heard : HasHeard turns' took.a' took.b' t'
  pub opened : is_in_opening t ≡ true → is_in_opening t' ≡ false → AreOpened (marks_of t ++ took.marks) took.a' took.b' t' turns'
  pub after : is_in_opening t ≡ false → (o : is_in_opening t ≡ false) × (turns' ≡ turn_by when (took.said o) (took.did o) ∷ turns)

-- The connection took these segments, one after another.
abbrev pub HasTaken : Bool → List Arrival → Past → Past → Talk → List Turn → Past → Past → Talk → List Turn → Type 0
HasTaken first [] a b t turns a' b' t' turns' = (a' ≡ a) × (b' ≡ b) × (t' ≡ t) × (turns' ≡ turns)
HasTaken first (x ∷ xs) a b t turns a' b' t' turns' =
    MayTake first x a b t × (s : Segment) × (segment s ≡ x.segment) × (mid : Talk) × (took : Takes s x.when a b t mid)
    × (now : List Turn) × HasTurned s x.when a b t mid took turns now × HasTaken false xs took.a' took.b' mid now a' b' t' turns'

-- The connection began with this segment, and took these. Of both sides this was captured, and these turns came.
pub record IsMadeOf (terms : Terms) (first : Segment) (taken : List Arrival) (a b : Past) (t : Talk) : Type 0 where
  pub begin : Talk
  pub turns : List Turn
  pub begun : IsBegun terms first begin
  pub has_taken : HasTaken true taken no_past no_past begin [] a b t turns
  pub is : IsTalk a b t
  pub ends : ends_of t ≡ ends_by first
  pub terms_are : terms_of t ≡ terms
  pub heard : HasHeard turns a b t

-- The segment is the first of these.
abbrev pub IsFirst : Segment → List Arrival → Type 0
IsFirst s [] = ⊥
IsFirst s (x ∷ xs) = segment s ≡ x.segment

-- The connection took these segments, and the next of these is one of its own.
abbrev pub IsNext : List Arrival → List Arrival → Past → Past → Talk → Type 0
IsNext taken [] a b t = Unit {0}
IsNext [] (x ∷ more) a b t = MayTake true x a b t
IsNext (y ∷ ys) (x ∷ more) a b t = MayTake false x a b t

-- What was captured of both sides is that of these segments, of which the first began the connection. More are still to be taken.
pub record IsMade (terms : Terms) (taken more : List Arrival) (t : Talk) : Type 0 where
  pub first : Segment
  pub is_first : IsFirst first (taken ++ more)
  pub a : Past
  pub b : Past
  pub made : IsMadeOf terms first taken a b t
  pub next : IsNext taken more a b t

-- It is a SYN without ACK. Once memory ran out with a connection, as long as it is followed, such a segment begins another, and no other one does.
abbrev pub is_opener : Arrival → Bool
is_opener x = x.segment.flags.syn && not x.segment.flags.ack

-- The connection took these segments, and memory ran out with x: it had read those before, and x belongs to it. None of the later ones is an opener.
-- More are still to be taken.
pub record HasRunOut (terms : Terms) (taken more : List Arrival) : Type 0 where
  pub kept : List Arrival
  pub x : Arrival
  pub later : List Arrival
  pub is : taken ≡ kept ++ x ∷ later
  pub talk : Talk
  pub made : IsMade terms kept (x ∷ later ++ more) talk
  pub no_opener : All (λ y. is_opener y ≡ false) (later ++ more)

-- The connection took these segments, or memory ran out with one of them.
pub record IsOpen (terms : Terms) (taken more : List Arrival) (c : Connection) : Type 0 where
  pub has_payload : c.has_payload ≡ list_any has_data taken
  pub made : is_lost c.talk ≡ false → IsMade terms taken more c.talk
  pub ran_out : is_lost c.talk ≡ true → HasRunOut terms taken more
