-- A report on a connection says what was captured of it.
use Rattle.std.specs.Prelude.{◌≡◌, ℕ, ◌-◌, ◌⊎◌, Bool, true, false, List, length, Option, Some, None, option_map, unwrap_or, ◌==◌, map, take, if◌then◌else◌}
use Rattle.bt_flow.specs.Flows.{AreGapsOf, conflicts_in, is_lost_stream}
use Rattle.bt_intro.specs.Hellos.{IsStartOf, IsFirstHello}
use Rattle.bt_intro.specs.Hearing.{IsSaid}
use Rattle.bt_intro.specs.Listening.{handshake_of, last_client}
use Rattle.bt_intro.specs.declared.settling.Receiver.{Receiver}
use Rattle.bt_jobs.specs.Others.{first_of}
use Rattle.bt_remarks.specs.declared.events.Side.{Side}
use Rattle.bt_remarks.specs.declared.events.Side.TheVariants.{A, B}
use Rattle.bt_remarks.specs.Said.{other}
use Rattle.bt_talk.specs.Pasts.{Past}
use Rattle.bt_talk.specs.Receivers.{AreVerdicts, IsReceiverNow}
use Rattle.bt_talk.specs.Closing.{high_at}
use Rattle.bt_talk.specs.Cuts.{IsLastBefore}
use Rattle.bt_talk.specs.Shown.{Turn, items_by, told_by}
use Rattle.bt_talk.specs.Talks.{of_side, flow_of, cut_of, is_in_opening, terms_of, ends_of, closing_of, strays_of}
use Rattle.bt_talk.specs.Unanswered.{AreUnanswered}
use Rattle.bt_talk.specs.Watching.{AreRemarked}
use Rattle.bt_talk.specs.declared.talk.Talk.{Talk}
use Rattle.bt_tcp.specs.declared.covered.Gap.{Gap}
use Rattle.bt_tcp.specs.declared.covered.Gaps.{Gaps}
use Rattle.bt_talk.specs.declared.closing.Closed.{Closed as FirstClose}
use Rattle.bt_report.specs.declared.report.Before.{Before}
use Rattle.bt_report.specs.declared.report.Closed.{Closed}
use Rattle.bt_rows.specs.declared.noted.Last.{Last}
use Rattle.bt_report.specs.declared.report.Left.{Left}
use Rattle.bt_report.specs.declared.report.Left.TheVariants.{Open}
use Rattle.bt_rows.specs.declared.noted.Remarked.{Remarked}
use Rattle.bt_rows.specs.declared.parts.Means.{Means}
use Rattle.bt_rows.specs.declared.parts.Means.TheVariants.{Fin, Rst}
use Rattle.bt_report.specs.declared.report.Body.{Body}
use Rattle.bt_report.specs.declared.report.Body.TheVariants as body
use Rattle.bt_report.specs.declared.report.Direction.{Direction}
use Rattle.bt_report.specs.declared.report.Judged.{Judged}
use Rattle.bt_report.specs.declared.report.Report.{Report}
use Rattle.bt_report.specs.declared.report.Sender.{Sender}
use Rattle.bt_report.specs.declared.report.Sender.TheVariants.{Unknown, Known}
use Rattle.bt_report.specs.declared.report.Title.{Title}
use Rattle.bt_report.specs.Names.{title_text, shown}
use Rattle.bt_wire.specs.declared.handshake.Handshake.{Handshake}
use Rattle.bt_wire.specs.Streams.{Outcome}

-- ---- parts of a direction

-- a place of the stream, as an offset from the handshake on
abbrev pub offset_gap : ℕ → Gap → Gap
offset_gap start gap = record { place = gap.place - start; length = gap.length }

abbrev pub offset_first : ℕ → Option Gap → Option Gap
offset_first start None = None
offset_first start (Some gap) = Some (offset_gap start gap)

abbrev pub shifted : ℕ → Gaps → Gaps
shifted start gaps = record gaps { first = offset_first start gaps.first }

-- A side without a whole handshake isn't judged.
abbrev pub IsUnjudged : Side → Past → Past → Talk → Type 0
IsUnjudged side a b t =
    AreVerdicts (is_in_opening t) (terms_of t) (of_side side a b) (of_side (other side) a b) None
    ⊎ (IsReceiverNow (is_in_opening t) (terms_of t) (of_side side a b) (of_side (other side) a b) None
    ⊎ ((v : Outcome) × IsSaid (of_side side a b).front v × (first_of handshake_of v.items ≡ None)))

-- the client's name, or the peer id if there is none
abbrev pub title_by : List ℕ → Handshake → List ℕ
title_by client h = if length client == 0 then map (shown 33) h.peer_id else map (shown 32) (take 60 client)

-- What a side calls itself in its opening: the client's name of its extended handshake, or the peer id of its handshake.
pub record IsTitleOf (p : Past) (t : Title) : Type 0 where
  pub hello : Handshake
  pub said : Outcome
  pub said_is : IsSaid p.front said
  pub hello_is : Some hello ≡ first_of handshake_of said.items
  pub named : Outcome
  pub named_is : IsSaid p.front named
  pub text : title_text t ≡ title_by (last_client named.items) hello

-- The verdicts, the messages that they refuse, and the receiver are those of the side's stream.
pub record IsJudgedOf (side : Side) (a b : Past) (t : Talk) (j : Judged) : Type 0 where
  pub title : IsTitleOf (of_side side a b) j.title
  pub verdicts : AreVerdicts (is_in_opening t) (terms_of t) (of_side side a b) (of_side (other side) a b) (Some (record {
    free = j.free;
    bep = j.bep;
    free_message = j.free_message;
    bep_message = j.bep_message;
  }))
  pub receiver : IsReceiverNow (is_in_opening t) (terms_of t) (of_side side a b) (of_side (other side) a b) (Some (record {
    own = j.receiver;
    is_guessed = j.is_guessed;
  }))

abbrev pub IsSenderOf : Side → Past → Past → Talk → Sender → Type 0
IsSenderOf side a b t (Unknown sent) = (sent ≡ length (of_side side a b).out) × IsUnjudged side a b t
IsSenderOf side a b t (Known j) = IsJudgedOf side a b t j

-- ---- a report

-- Offsets count from the handshake's start, if there is one.
pub record IsDirectionOf (side : Side) (a b : Past) (t : Talk) (d : Direction) : Type 0 where
  pub start : Option ℕ
  pub start_is : IsStartOf (of_side side a b).front start
  pub exchange : d.exchange ≡ unwrap_or start 0
  pub sender : IsSenderOf side a b t d.sender
  pub conflicts : d.conflicts ≡ conflicts_in (flow_of side t).stream
  pub strays : d.strays ≡ strays_of side t
  pub gaps : Gaps
  pub gaps_are : AreGapsOf (of_side side a b).heard (of_side side a b).segs (of_side side a b).out (flow_of side t) gaps
  pub shifted : d.gaps ≡ shifted d.exchange gaps
  -- The first gap is final, or it isn't.
  pub final : d.is_final ≡ is_lost_stream (flow_of side t).stream

abbrev pub HasStart : List ℕ → Type 0
HasStart front = (k : ℕ) × IsFirstHello front k

-- A side has begun a handshake, or none has.
abbrev pub HasBegun : List ℕ → List ℕ → Bool → Type 0
HasBegun a b true = HasStart a ⊎ HasStart b
HasBegun a b false = IsStartOf a None × IsStartOf b None

-- by a RST, or by a FIN
abbrev pub means_by : Bool → Means
means_by reset = if reset then Rst else Fin

-- what is kept of the side's stream
abbrev pub IsReceiverOf : Side → Past → Past → Talk → Option Receiver → Type 0
IsReceiverOf side a b t r = IsReceiverNow (is_in_opening t) (terms_of t) (of_side side a b) (of_side (other side) a b) r

-- how far the side's captured bytes reached at the first FIN or RST, from its handshake on
abbrev pub IsSentBefore : Side → Past → Past → Talk → Option ℕ → Type 0
IsSentBefore side a b t sent =
    (start : Option ℕ) × IsStartOf (of_side side a b).front start
    × (sent ≡ option_map (λ c. high_at side c - unwrap_or start 0) (closing_of t).closed)

-- the last of what was put together then
abbrev pub IsLastOfSide : Side → Past → Past → Talk → Option Last → Type 0
IsLastOfSide side a b t last =
    IsLastBefore (is_in_opening t) (terms_of t) (of_side side a b) (of_side (other side) a b) (cut_of side t) last

-- It has a whole handshake.
abbrev pub HasReceiver : Side → Past → Past → Talk → Type 0
HasReceiver side a b t = (r : Receiver) × IsReceiverOf side a b t (Some r)

-- What a side had sent then; nothing is told if it has no whole handshake.
abbrev pub IsBeforeOf : Side → Past → Past → Talk → Option Before → Type 0
IsBeforeOf side a b t None = IsReceiverOf side a b t None ⊎ (IsSentBefore side a b t None ⊎ IsLastOfSide side a b t None)
IsBeforeOf side a b t (Some before) = HasReceiver side a b t × IsSentBefore side a b t (Some before.sent) × IsLastOfSide side a b t (Some before.last)

-- The first FIN or RST; its time counts from the capture's start.
pub record IsClosing (from : ℕ) (a b : Past) (t : Talk) (c : FirstClose) (r : Closed) : Type 0 where
  pub first : r.first ≡ c.side
  pub by : r.by ≡ means_by c.by_reset
  pub at : r.at ≡ c.when.nanos - from
  pub of_a : IsBeforeOf A a b t r.a
  pub of_b : IsBeforeOf B a b t r.b

abbrev pub IsClosedBy : ℕ → Past → Past → Talk → Option FirstClose → Option Closed → Type 0
IsClosedBy from a b t None r = r ≡ None
IsClosedBy from a b t (Some c) None = ⊥
IsClosedBy from a b t (Some c) (Some r) = IsClosing from a b t c r

abbrev pub no_remarks : Remarked
no_remarks = record { unasked = None; choked = None; again = None; unanswered = None; elsewhere = None }

-- The remarks are those on a side's items in these turns, and its requests that got no answer.
abbrev pub AreRemarksOn : Side → Past → Past → Talk → List Turn → Remarked → Type 0
AreRemarksOn side a b t turns r =
    AreRemarked side (told_by turns) (items_by side turns) r × AreUnanswered side a b t (told_by turns) (items_by side turns) r.unanswered

-- The remarks are those on what both sides sent; there are none if a side has no whole handshake.
abbrev pub AreRemarksOf : Past → Past → Talk → List Turn → Remarked → Remarked → Type 0
AreRemarksOf a b t turns x y =
    (HasReceiver A a b t × HasReceiver B a b t × AreRemarksOn A a b t turns x × AreRemarksOn B a b t turns y)
    ⊎ ((x ≡ no_remarks) × (y ≡ no_remarks) × (IsReceiverOf A a b t None ⊎ IsReceiverOf B a b t None))

-- A connection that has ended is complete.
abbrev pub left_after : Option ℕ → Left → Left
left_after None left = left
left_after (Some over) left = Open

-- It is a BitTorrent connection if a side has begun a handshake.
abbrev pub IsBodyOf : ℕ → Left → Past → Past → Talk → List Turn → Body → Type 0
IsBodyOf from left a b t turns body.NotBitTorrent = HasBegun a.front b.front false
IsBodyOf from left a b t turns (body.Told r) =
    HasBegun a.front b.front true × IsDirectionOf A a b t r.a × IsDirectionOf B a b t r.b × IsClosedBy from a b t (closing_of t).closed r.closed
    × AreRemarksOf a b t turns r.remarked_a r.remarked_b × (r.left ≡ left_after (closing_of t).over left)

-- The report says of the connection what was captured of both sides, which had these turns, and how it was left.
pub record IsReportOf (n from : ℕ) (left : Left) (a b : Past) (t : Talk) (turns : List Turn) (r : Report) : Type 0 where
  pub number : r.number ≡ n
  pub end_a : r.a ≡ (ends_of t).a
  pub end_b : r.b ≡ (ends_of t).b
  pub body : IsBodyOf from left a b t turns r.body
