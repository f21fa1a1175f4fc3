-- A connection that is served: what its counts and its end say, from its start to a later moment.
use Rattle.std.specs.Prelude.{◌≡◌, ℕ, ◌+◌, ◌<◌, ◌≤◌, ◌⊎◌, Bool, true, false, List, [], ◌∷◌, length, Option, Some, None, Result, Ok, Err}
use Rattle.bt_wire.specs.declared.context.Own.{Own}
use Rattle.bt_wire.specs.declared.handshake.Handshake.{Handshake}
use Rattle.bt_wire.specs.declared.item.Item.{Item}
use Rattle.bt_ext.specs.Ids.{metadata_only}
use Rattle.bt_metadata.specs.Blocks.{window}
use Rattle.bt_end.specs.Ends.{EndState, Part, Serving, unopened}
use Rattle.bt_end.specs.Events.{event_of}
use Rattle.bt_end.specs.Halves.{HalfState, connected}
use Rattle.bt_end.specs.declared.config.Announce.{Announce}
use Rattle.bt_end.specs.declared.config.Announce.TheVariants as announce
use Rattle.bt_exchange.specs.Boths.{capped}
use Rattle.bt_exchange.specs.Courses.{Moment, IsMoved}
use Rattle.bt_exchange.specs.Lists.{IsAdded}
use Rattle.bt_exchange.specs.Stops.{IsCalm, IsFault}
use Rattle.bt_exchange.specs.declared.talking.Step.{Step}
use Rattle.bt_exchange.specs.declared.talking.Step.TheVariants as step
use Rattle.bt_exchange.specs.declared.talking.Stop.{Stop}
use Rattle.bt_exchange.specs.declared.talking.Stop.TheVariants as stop
use Rattle.bt_serve.specs.Services.{IsServing, IsUnsaid, has_piece, queued_at}
use Rattle.bt_serve.specs.declared.door.Parting.{Parting}
use Rattle.bt_serve.specs.declared.guest.Ending.{Ending}
use Rattle.bt_serve.specs.declared.guest.Ending.TheVariants as ending
use Rattle.bt_serve.specs.declared.guest.Hospitality.{Hospitality}
use Rattle.bt_serve.specs.declared.guest.Pace.{Pace}
use Rattle.bt_serve.specs.declared.guest.Tally.{Tally}

-- ---- the end

-- the limit is that of an end
abbrev pub IsHospitality : Hospitality → Type 0
IsHospitality h = (32768 ≤ h.limit) × (h.limit ≤ 1048576)

-- It receives for this info hash and this many pieces, with the Extension Protocol and the Fast Extension, metadata messages under
-- id 3.
abbrev pub own_of : Hospitality → Option ℕ → Own
own_of h pieces = record {
  reserved = record { 0 = 1048580 };
  info_hash = Some h.info_hash;
  pieces = pieces;
  reg = metadata_only (Some 3);
  rules = h.rules;
  limit = h.limit;
}

abbrev pub handshake_of : Hospitality → Handshake
handshake_of h = record { reserved = record { 0 = 1048580 }; info_hash = h.info_hash; peer_id = h.peer_id }

-- a new end that serves the metadata, and says that it has no piece
abbrev pub serving_end : Hospitality → Option ℕ → List ℕ → HalfState
serving_end h pieces metadata = connected (unopened (own_of h pieces) (handshake_of h) announce.Nothing window (Serving metadata))

-- it serves, and announces that it has no piece
abbrev pub is_serving : Part → Bool
is_serving (Serving metadata) = true
is_serving p = false

abbrev pub is_nothing : Announce → Bool
is_nothing announce.Nothing = true
is_nothing a = false

pub record IsServer (e : EndState) : Type 0 where
  pub part : is_serving e.part ≡ true
  pub announce : is_nothing e.announce ≡ true

-- ---- counts

-- From `start` on, the items of the peer that the tally counts were handled and answered. What was queued, the handshake and the messages, was
-- sent, except for `queued` items. Nothing was sent before the first item was handled, which is the peer's handshake (BEP 3: the end that
-- is connected to sends its handshake once it knows the info hash).
pub record IsTally (start now : Moment) (t : Tally) : Type 0 where
  pub moved : IsServing start now
  pub handled : t.handled ≡ capped (length moved.course.items)
  pub queued : capped (t.sent + t.queued) ≡ capped (1 + queued_at start.half.end moved.course.items)
  pub silent : length moved.course.items ≡ 0 → moved.sent ≡ []

-- when nothing waits to be sent, no item does
abbrev pub IsSettled : HalfState → Tally → Type 0
IsSettled a t = length a.outbox ≡ 0 → t.queued ≡ 0

-- at this time, by the connection's clock, it was the moment since which no byte was moved
pub record IsQuietSince (time : ℕ) (start now : Moment) : Type 0 where
  pub since : Moment
  pub before : IsServing start since
  pub after : IsServing since now
  pub quiet : (after.got ≡ []) × (after.sent ≡ [])
  pub clock : since.seen.counts.clock ≡ time

-- no call failed, nothing was moved since this time, these are the counts, and no block of a piece came
pub record IsServed (start now : Moment) (since : ℕ) (t : Tally) : Type 0 where
  pub calm : IsCalm start.seen.counts now.seen.counts
  pub quiet : IsQuietSince since start now
  pub tally : IsTally start now t
  pub unasked : has_piece start.half.end tally.moved.course.items ≡ false
  pub server : IsServer now.half.end

-- ---- the end of a connection

-- each item was answered, `handled` of them
abbrev pub AreAnswered : Moment → Moment → ℕ → ℕ → Type 0
AreAnswered last now answered handled = (last ≡ now) × (answered ≡ handled)

-- one more item was handled, but what was to be said at it can't be queued: too much waits to be sent, or out of memory
abbrev pub IsLeft : Moment → Moment → ℕ → ℕ → Type 0
IsLeft last now answered handled = (handled ≡ capped (answered + 1))
    × ((m : IsMoved last now) × ((x : ℕ × Item) × (m.course.items ≡ x ∷ []) × IsUnsaid now.half (event_of last.half.end x.1)))

-- the peer closed it, a call failed, or an item is held for which memory is taken
abbrev pub IsClosed : Moment → Moment → Type 0
IsClosed start now =
    IsFault start.seen.counts now.seen.counts now.half stop.Closed
    ⊎ (IsFault start.seen.counts now.seen.counts now.half stop.Failed ⊎ IsFault start.seen.counts now.seen.counts now.half stop.Memory)

-- Why a connection ended, over which `answered` items were handled and answered up to `last`: it is closed, or the last item can't be answered; or
-- nothing was moved for more than `patience` seconds; or a block of a piece came; or what came is refused.
abbrev pub IsEnding : ℕ → Moment → Moment → Moment → ℕ → ℕ → Ending → Type 0
IsEnding patience start last now answered handled ending.Closed =
    (AreAnswered last now answered handled × IsClosed start now) ⊎ (IsCalm start.seen.counts now.seen.counts × IsLeft last now answered handled)
IsEnding patience start last now answered handled ending.Silent = AreAnswered last now answered handled × IsCalm start.seen.counts now.seen.counts
    × ((time : ℕ) × IsQuietSince time start now × (time + patience < now.seen.counts.clock))
IsEnding patience start last now answered handled ending.Unasked = AreAnswered last now answered handled × IsCalm start.seen.counts now.seen.counts
IsEnding patience start last now answered handled ending.Unserved = ⊥
IsEnding patience start last now answered handled (ending.Refused r) =
    AreAnswered last now answered handled × IsFault start.seen.counts now.seen.counts now.half (stop.Refused r)

abbrev pub is_unasked : Ending → Bool
is_unasked ending.Unasked = true
is_unasked other = false

-- how it ended: the counts up to the last item that was answered, and a block of a piece came or not
pub record IsEnded (patience : ℕ) (start now : Moment) (t : Tally) (e : Ending) : Type 0 where
  pub last : Moment
  pub answered : ℕ
  pub tally : IsTally start last (record { queued = t.queued; sent = t.sent; handled = answered })
  pub unasked : has_piece start.half.end tally.moved.course.items ≡ is_unasked e
  pub ending : IsEnding patience start last now answered t.handled e

-- the same with its counts: all that was queued was sent, except for `queued` items, and each of these if nothing waits
pub record IsParting (patience : ℕ) (start now : Moment) (p : Parting) : Type 0 where
  pub queued : ℕ
  pub ended : IsEnded patience start now (record { queued = queued; sent = p.sent; handled = p.handled }) p.ending
  pub settled : length now.half.outbox ≡ 0 → queued ≡ 0

-- ---- for private contracts

-- a step moved bytes
abbrev pub moves : Result Step Ending → Bool
moves (Ok step.Moved) = true
moves other = false

-- a step, and what is so after it
abbrev pub IsStepped : Moment → Moment → ℕ → Tally → Result Step Ending → Type 0
IsStepped start now since t (Ok st) = IsServed start now since t
IsStepped start now since t (Err e) = (patience : ℕ) → IsEnded patience start now t e

-- the connection goes on, or has ended
abbrev pub IsTended : ℕ → Moment → Moment → ℕ → Tally → Result Pace Parting → Type 0
IsTended patience start now since t (Ok pace) = IsServed start now since t
IsTended patience start now since t (Err p) = IsParting patience start now p

-- A connection's turn: it goes on, and the door was told nothing; or it ended, and the door was told how.
abbrev pub IsTurned : {N : Type 0} → ℕ → Moment → Moment → ℕ → Tally → N → Option (List (N × Parting)) → Option (List (N × Parting))
    → Option Pace → Type 0
IsTurned patience start now since t name old new (Some pace) = IsServed start now since t × (new ≡ old)
IsTurned patience start now since t name old new None = (p : Parting) × IsParting patience start now p × IsAdded old new (name, p)

-- the ending of a connection over which a step failed so
abbrev pub ended_by : Stop → Ending
ended_by (stop.Refused r) = ending.Refused r
ended_by other = ending.Closed

-- the tally with these messages queued, and an item handled
abbrev pub with_item : ℕ → Tally → Tally
with_item n t = record { queued = capped (t.queued + n); sent = t.sent; handled = capped (t.handled + 1) }

-- all that was queued is sent
abbrev pub with_all_sent : Tally → Tally
with_all_sent t = record { queued = 0; sent = capped (t.sent + t.queued); handled = t.handled }
