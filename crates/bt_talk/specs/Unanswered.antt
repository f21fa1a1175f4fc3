-- Requests that got no answer, at a connection's end (BEP 6).
use Rattle.std.specs.Prelude.{◌≡◌, ℕ, Bool, true, false, not, ◌&&◌, ◌||◌, List, Option, Some, None}
use Rattle.bt_flow.specs.Flows.{HasHole}
use Rattle.bt_intro.specs.Hearing.{IsSaid}
use Rattle.bt_intro.specs.Listening.{handshake_of}
use Rattle.bt_jobs.specs.Others.{first_of}
use Rattle.bt_remarks.specs.declared.events.Ending.{Ending}
use Rattle.bt_remarks.specs.declared.events.Side.{Side}
use Rattle.bt_remarks.specs.declared.tallies.Request.{Request}
use Rattle.bt_remarks.specs.Ends.{unanswered, AreFoundOf}
use Rattle.bt_remarks.specs.Requests.{Pending}
use Rattle.bt_remarks.specs.Said.{Told, is_same, other}
use Rattle.bt_text.specs.declared.ended.Ended.{Ended}
use Rattle.bt_text.specs.declared.ended.Ended.TheVariants.{Accepted, Refused}
use Rattle.bt_rows.specs.declared.noted.Noted.{Noted}
use Rattle.bt_rows.specs.declared.said.Name.TheVariants as name
use Rattle.bt_rows.specs.declared.said.Numbers.TheVariants.{Three}
use Rattle.bt_rows.specs.declared.said.Said.{Said}
use Rattle.bt_rows.specs.declared.said.Words.TheVariants.{Message}
use Rattle.bt_wire.specs.declared.handshake.Handshake.{Handshake}
use Rattle.bt_wire.specs.declared.item.Item.{Item}
use Rattle.bt_wire.specs.Handshakes.{sets_fast}
use Rattle.bt_wire.specs.Streams.{Outcome}
use Rattle.bt_talk.specs.declared.closing.Closed.{Closed}
use Rattle.bt_talk.specs.declared.refused.Judgement.{Judgement}
use Rattle.bt_talk.specs.declared.talk.Talk.{Talk}
use Rattle.bt_talk.specs.Pasts.{Past}
use Rattle.bt_talk.specs.Receivers.{AreVerdicts}
use Rattle.bt_talk.specs.Talks.{of_side, flow_of, is_in_opening, terms_of, closing_of}
use Rattle.bt_talk.specs.Watching.{IsAmong}

-- ---- both sides have the Fast Extension

-- There is a handshake, and it has the bit of the Fast Extension.
abbrev pub has_fast : Option Handshake → Bool
has_fast None = false
has_fast (Some h) = sets_fast h.reserved

-- Both sides have it by their handshakes, or they haven't.
pub record HaveFast (a b : Past) (have : Bool) : Type 0 where
  pub of_a : Outcome
  pub of_b : Outcome
  pub a_said : IsSaid a.front of_a
  pub b_said : IsSaid b.front of_b
  pub is : have ≡ (has_fast (first_of handshake_of of_a.items) && has_fast (first_of handshake_of of_b.items))

-- ---- how a side's direction ended

-- whether this side sent the first FIN or RST
abbrev pub has_closed : Side → Option Closed → Bool
has_closed side None = false
has_closed side (Some closed) = is_same closed.side side

abbrev pub is_accepted_by : Ended → Bool
is_accepted_by (Accepted messages bytes) = true
is_accepted_by (Refused refusal) = false

-- There is a whole handshake, and from there on the lenient rules accept the stream; so it ends after a whole message.
abbrev pub is_accepted : Option Judgement → Bool
is_accepted None = false
is_accepted (Some verdicts) = is_accepted_by verdicts.free

-- All that a side said is known if its stream is accepted, and no byte that it has sent is missing.
pub record IsEnding (side : Side) (a b : Past) (t : Talk) (ending : Ending) : Type 0 where
  pub verdicts : Option Judgement
  pub verdicts_are : AreVerdicts (is_in_opening t) (terms_of t) (of_side side a b) (of_side (other side) a b) verdicts
  pub hole : Bool
  pub hole_is : HasHole (of_side side a b).heard (of_side side a b).out (flow_of side t).stream hole
  pub closed_first : ending.closed_first ≡ has_closed side (closing_of t).closed
  pub stopped : ending.stopped ≡ (not (is_accepted verdicts) || hole)

-- ---- the requests

-- a request's offset and words
abbrev pub request_said : Request → Said
request_said r = record { offset = r.mark; words = Message name.Request (Three r.block.index r.block.begin r.block.length) }

-- As many of the requests are counted, and the oldest of them is this item.
pub record AreFound (requests : Pending) (xs : List (ℕ × Item)) (noted : Noted) : Type 0 where
  pub first : Request
  pub found : AreFoundOf requests (record { count = noted.count; first = Some first })
  pub said : noted.first ≡ request_said first
  pub item : IsAmong xs first.mark noted.first

abbrev pub AreNoted : Pending → List (ℕ × Item) → Option Noted → Type 0
AreNoted requests xs None = (index begin : ℕ) → requests index begin ≡ None
AreNoted requests xs (Some noted) = AreFound requests xs noted

-- These are the first side's requests that got no answer, by how the other side's direction ended.
pub record AreLeft (side : Side) (a b : Past) (t : Talk) (events : List Told) (xs : List (ℕ × Item)) (noted : Option Noted) : Type 0 where
  pub ending : Ending
  pub is_ending : IsEnding (other side) a b t ending
  pub are : AreNoted (unanswered ending.closed_first ending.stopped side events) xs noted

abbrev pub AreLeftIf : Bool → Side → Past → Past → Talk → List Told → List (ℕ × Item) → Option Noted → Type 0
AreLeftIf false side a b t events xs noted = noted ≡ None
AreLeftIf true side a b t events xs noted = AreLeft side a b t events xs noted

-- They are told if both sides have the Fast Extension.
pub record AreUnanswered (side : Side) (a b : Past) (t : Talk) (events : List Told) (xs : List (ℕ × Item)) (noted : Option Noted) : Type 0 where
  pub fast : Bool
  pub have_fast : HaveFast a b fast
  pub are : AreLeftIf fast side a b t events xs noted
