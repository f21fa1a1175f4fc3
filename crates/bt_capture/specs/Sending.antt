-- The bytes of a connection's side that are handed out, by the segments that the connection took.
use Rattle.bt_talk.specs.declared.terms.Terms.{Terms}
use Rattle.std.specs.Prelude.{◌≡◌, ◌⊎◌, ℕ, ◌+◌, ◌-◌, ◌^◌, ◌<◌, min, Bool, false, if◌then◌else◌, List, [], ◌++◌, Some}
use Rattle.bt_packet.specs.declared.tcp.Segment.{Segment}
use Rattle.bt_remarks.specs.declared.events.Side.{Side}
use Rattle.bt_talk.specs.Sent.{IsSent}
use Rattle.bt_talk.specs.Pasts.{Past}
use Rattle.bt_talk.specs.Talks.{is_in_opening, is_lost, of_side}
use Rattle.bt_talk.specs.declared.talk.Talk.{Talk}
use Rattle.bt_capture.specs.Arrivals.{Arrival}
use Rattle.bt_capture.specs.Connections.{IsFirst, IsMade, IsMadeOf}
use Rattle.bt_capture.specs.declared.connection.Connection.{Connection}
use Rattle.bt_capture.specs.Forms.{wanted_by}
use Rattle.bt_capture.specs.declared.connections.Connections.{Connections}
use Rattle.bt_capture.specs.declared.ending.Form.{Form}

-- Its opening isn't over, and wasn't ended.
abbrev pub still_opening : (ended : Bool) → Talk → Bool
still_opening ended t = if ended then false else is_in_opening t

-- A first part of these segments was taken, and the opening may have been ended then. These bytes of the side had been handed out. More segments come.
pub record WasSent (ended : Bool) (side : Side) (sent : List ℕ) (terms : Terms) (taken more : List Arrival) : Type 0 where
  pub early : List Arrival
  pub late : List Arrival
  pub is : taken ≡ early ++ late
  pub first : Segment
  pub is_first : IsFirst first (taken ++ more)
  pub a : Past
  pub b : Past
  pub talk : Talk
  pub made : IsMadeOf terms first early a b talk
  pub is_sent : IsSent (still_opening ended talk) (of_side side a b) sent

-- The connection took these segments, and these bytes of the side were handed out: after all of them, or after a first part if memory ran out.
pub record HasSent (side : Side) (sent : List ℕ) (terms : Terms) (taken more : List Arrival) (c : Connection) : Type 0 where
  pub early : WasSent false side sent terms taken more
  pub all : is_lost c.talk ≡ false → (m : IsMade terms taken more c.talk) × IsSent (is_in_opening c.talk) (of_side side m.a m.b) sent

-- If the stream of this connection is told, what was told is what was handed out of it. A number below 2 ^ 64 - 1 is of one connection only.
abbrev pub IsSending : Form → List ℕ → Terms → (taken more : List Arrival) → Connection → Type 0
IsSending form told terms taken more c =
    (side : Side) → c.number < 2 ^ 64 - 1 → wanted_by form c.number ≡ Some side → HasSent side told terms taken more c

-- The connection is over: it took these segments, and these are all bytes of the side's stream from its handshake on, or from its first byte
-- if none started in the opening.
abbrev pub IsWhole : Side → List ℕ → Terms → List Arrival → Connection → Type 0
IsWhole side sent terms taken c = (m : IsMade terms taken [] c.talk) × IsSent false (of_side side m.a m.b) sent

-- These bytes were appended to what is told, and with them all of the side's stream was. Or memory ran out, and the connection is counted as lost:
-- nothing was appended, and what is told was handed out after a first part of its segments.
pub record IsSentOff (side : Side) (sent : List ℕ) (terms : Terms) (taken : List Arrival) (c : Connection) (old new : Connections) : Type 0 where
  pub more : List ℕ
  pub text : new.teller.text.items ≡ old.teller.text.items ++ more
  pub whole : ((new.lost.memory ≡ min (old.lost.memory + 1) (2 ^ 64 - 1)) × (more ≡ []) × WasSent false side sent terms taken [])
      ⊎ IsWhole side (sent ++ more) terms taken c
