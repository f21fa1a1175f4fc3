-- A connection of uTP (BEP 29), and the segments that its packets are turned into.
use Rattle.std.specs.Prelude.{◌≡◌, ℕ, ◌+◌, ◌%◌, ◌^◌, ◌==◌, ◌&&◌, ◌||◌, not, Bool, true, false, List, [], Option, Some, None, if◌then◌else◌}
use Rattle.bt_order.specs.declared.direction.Direction.{Direction}
use Rattle.bt_order.specs.declared.held.Payload.{Payload}
use Rattle.bt_order.specs.declared.link.Kind.{Kind}
use Rattle.bt_order.specs.declared.link.Kind.TheVariants.{Data, Fin, State, Reset, Syn}
use Rattle.bt_order.specs.declared.link.Came.{Came}
use Rattle.bt_order.specs.declared.link.Step.{Step}
use Rattle.bt_order.specs.declared.link.Turned.{Turned}
use Rattle.bt_order.specs.declared.link.Link.{Link}
use Rattle.bt_order.specs.Directions.{is_finished, IsDirectionOf, TakesNumber, Stays}
use Rattle.bt_order.specs.States.{gap_of, is_fresh, acked_of, is_ahead}

abbrev pub is_data : Kind → Bool
is_data Data = true
is_data kind = false

abbrev pub is_fin : Kind → Bool
is_fin Fin = true
is_fin kind = false

abbrev pub is_state : Kind → Bool
is_state State = true
is_state kind = false

abbrev pub payload_of : Came → Payload
payload_of came = record { is_fin = is_fin came.kind; bytes = came.bytes; size = came.size }

-- the direction of a side
abbrev pub side : Bool → Link → Direction
side true link = link.initiator
side false link = link.acceptor

-- The ST_STATE by which the acceptor acknowledges the SYN (BEP 29, "connection setup").
abbrev pub is_answer : ℕ → Came → Bool
is_answer syn came = not came.is_initiator && (is_state came.kind && (came.acked == syn))

-- The initiator's first ST_DATA, whose number is the one after the SYN's.
abbrev pub is_first_data : ℕ → Came → Bool
is_first_data syn came = came.is_initiator && (is_data came.kind && (came.number == (syn + 1) % 2 ^ 16))

-- The initiator's first ST_DATA counts, as long as no packet of the acceptor was taken or held.
abbrev pub may_correct : Bool → Bool → Direction → Bool
may_correct known sent acceptor = not sent && (not known || is_fresh acceptor)

abbrev pub told_by : ℕ → Bool → Bool → Direction → Came → Option ℕ
told_by syn known sent acceptor came =
    if is_answer syn came
    then (if known then None else Some came.number)
    else (if is_first_data syn came && may_correct known sent acceptor then Some ((came.acked + 1) % 2 ^ 16) else None)

-- The number of the acceptor's first packet, if this packet tells it. In BEP 29's diagram the answer to the SYN has it, and the initiator's first
-- ST_DATA acknowledges the number before it. By the letter of BEP 29 the answer counts as a packet, so that the number is the next one.
abbrev pub told_first : Link → Came → Option ℕ
told_first link came = told_by link.syn link.is_known link.has_sent link.acceptor came

-- Its first packet has this number, its first byte this place, and nothing came yet.
pub record Begins (number place : ℕ) (d : Direction) : Type 0 where
  pub first : d.first ≡ number
  pub base : d.base ≡ place
  pub empty : d.held.counted ≡ 0
  pub none : IsDirectionOf [] [] d

abbrev pub IsBegun : Option ℕ → Direction → Bool → Direction → Bool → Type 0
IsBegun None old known new known' = (new ≡ old) × (known' ≡ known)
IsBegun (Some number) old known new known' = Begins number 1 new × (known' ≡ true)

-- The acceptor's direction begins anew if the packet tells its first number.
pub record Learns (came : Came) (old new : Link) : Type 0 where
  pub first : IsBegun (told_first old came) old.acceptor old.is_known new.acceptor new.is_known
  pub sent : new.has_sent ≡ old.has_sent || is_first_data old.syn came
  pub initiator : new.initiator ≡ old.initiator
  pub syn : new.syn ≡ old.syn
  pub answered : new.has_answered ≡ old.has_answered
  pub reset : new.is_reset ≡ old.is_reset

-- A direction takes a packet of the type ST_DATA or ST_FIN: the place before it, whether the ST_FIN is reached by it, and whether a byte is missing.
pub record Steps (came : Came) (room : ℕ) (old : Direction) (out : List ℕ) (new : Direction) (out' : List ℕ) (step : Step) : Type 0 where
  pub has_room : Bool
  pub taken : TakesNumber came.number (payload_of came) room has_room old out new out'
  pub sequence : step.sequence ≡ old.place
  pub fin : step.is_fin ≡ is_finished new.course && not (is_finished old.course)
  pub missing : step.is_missing ≡ gap_of new || not has_room

-- the place that the other side acknowledges, if it is known
abbrev pub acked_by : Came → Link → Option ℕ
acked_by came link =
    if came.is_initiator then (if link.is_known then acked_of link.acceptor came.acked else None) else acked_of link.initiator came.acked

-- a segment with no flags and no payload
abbrev pub segment : ℕ → Option ℕ → Turned
segment place acked = record { sequence = place; acked = acked; is_syn = false; is_fin = false; is_reset = false; is_missing = false }

-- The acceptor's packets aren't taken until its first number is known.
abbrev pub untaken : Step
untaken = record { sequence = 1; is_fin = false; is_missing = true }

-- the bytes that are held, of both sides
abbrev pub counted : Link → ℕ
counted link = link.initiator.held.counted + link.acceptor.held.counted

abbrev pub TakesOwnBy : Bool → Bool → Came → ℕ → Link → List ℕ → Link → List ℕ → Step → Type 0
TakesOwnBy true known came room old out new out' step = Steps came room old.initiator out new.initiator out' step × (new.acceptor ≡ old.acceptor)
TakesOwnBy false true came room old out new out' step = Steps came room old.acceptor out new.acceptor out' step × (new.initiator ≡ old.initiator)
TakesOwnBy false false came room old out new out' step =
    (step ≡ untaken) × (out' ≡ out) × (new.initiator ≡ old.initiator) × (new.acceptor ≡ old.acceptor)

-- A side's direction takes a packet.
pub record TakesOwn (came : Came) (room : ℕ) (old : Link) (out : List ℕ) (new : Link) (out' : List ℕ) (step : Step) : Type 0 where
  pub taken : TakesOwnBy came.is_initiator old.is_known came room old out new out' step
  pub known : new.is_known ≡ old.is_known
  pub sent : new.has_sent ≡ old.has_sent
  pub answered : new.has_answered ≡ old.has_answered
  pub syn : new.syn ≡ old.syn
  pub reset : new.is_reset ≡ old.is_reset

abbrev pub CarriesBy : Bool → Bool → Came → ℕ → Link → List ℕ → Link → List ℕ → Step → Type 0
CarriesBy true known came room old out new out' step =
    Steps came room old.initiator out new.initiator out' step × IsBegun (told_first old came) old.acceptor old.is_known new.acceptor new.is_known
CarriesBy false true came room old out new out' step =
    Steps came room old.acceptor out new.acceptor out' step × (new.initiator ≡ old.initiator) × (new.is_known ≡ true)
CarriesBy false false came room old out new out' step =
    (step ≡ untaken) × (out' ≡ out) × (new.initiator ≡ old.initiator) × (new.acceptor ≡ old.acceptor) × (new.is_known ≡ false)

-- A packet of the type ST_DATA or ST_FIN was turned.
pub record Carries (came : Came) (room : ℕ) (old : Link) (out : List ℕ) (new : Link) (out' : List ℕ) (t : Turned) : Type 0 where
  pub step : Step
  pub taken : CarriesBy came.is_initiator old.is_known came room old out new out' step
  pub turned : t ≡ record (segment step.sequence (acked_by came new)) { is_fin = step.is_fin; is_missing = step.is_missing }
  pub sent : new.has_sent ≡ old.has_sent || is_first_data old.syn came
  pub answered : new.has_answered ≡ old.has_answered
  pub syn : new.syn ≡ old.syn
  pub reset : new.is_reset ≡ old.is_reset

-- An ST_STATE has the number that is sent next, so a greater one than the awaited one says that a packet is missing.
abbrev pub heard : Direction → ℕ → Option ℕ → Turned
heard d number acked = record (segment d.place acked) { is_missing = gap_of d || is_ahead d number }

-- the first answer to the SYN
abbrev pub answers : Link → Came → Bool
answers link came = is_answer link.syn came && not link.has_answered

abbrev pub heard_by : Link → Came → Turned
heard_by link came =
    if came.is_initiator then heard link.initiator came.number (acked_by came link)
    else (if link.is_known then heard link.acceptor came.number (acked_by came link) else segment 1 (acked_by came link))

-- A packet of the type ST_STATE was turned. The first answer to the SYN is the acceptor's SYN, and acknowledges the initiator's.
pub record Hears (came : Came) (old new : Link) (t : Turned) : Type 0 where
  pub first : IsBegun (told_first old came) old.acceptor old.is_known new.acceptor new.is_known
  pub turned : t ≡ (if answers old came then record (segment 0 (Some (old.syn + 1))) { is_syn = true } else heard_by new came)
  pub answered : new.has_answered ≡ old.has_answered || is_answer old.syn came
  pub initiator : new.initiator ≡ old.initiator
  pub sent : new.has_sent ≡ old.has_sent || is_first_data old.syn came
  pub syn : new.syn ≡ old.syn
  pub reset : new.is_reset ≡ old.is_reset

-- A packet of the type ST_RESET was turned.
pub record Resets (came : Came) (old new : Link) (t : Turned) : Type 0 where
  pub turned : t ≡ record (segment (side came.is_initiator old).place None) { is_reset = true }
  pub same : new ≡ record old { is_reset = true }

-- A packet was turned into a segment, and its payload appended.
abbrev pub TurnsBy : Kind → Came → ℕ → Link → List ℕ → Link → List ℕ → Turned → Type 0
TurnsBy Data came room old out new out' t = Carries came room old out new out' t
TurnsBy Fin came room old out new out' t = Carries came room old out new out' t
TurnsBy State came room old out new out' t = Hears came old new t × (out' ≡ out)
TurnsBy Reset came room old out new out' t = Resets came old new t × (out' ≡ out)
TurnsBy Syn came room old out new out' t = (t ≡ record (segment old.syn None) { is_syn = true }) × (new ≡ old) × (out' ≡ out)

abbrev pub Turns : Came → ℕ → Link → List ℕ → Link → List ℕ → Turned → Type 0
Turns came = TurnsBy came.kind came

-- Nothing changed.
pub record StaysLink (old : Link) (out : List ℕ) (new : Link) (out' : List ℕ) : Type 0 where
  pub initiator : Stays old.initiator out new.initiator out'
  pub acceptor : Stays old.acceptor out new.acceptor out'
  pub known : new.is_known ≡ old.is_known
  pub sent : new.has_sent ≡ old.has_sent
  pub answered : new.has_answered ≡ old.has_answered
  pub syn : new.syn ≡ old.syn
  pub reset : new.is_reset ≡ old.is_reset

-- A RESET came, or the ST_FIN of both sides and all before it.
abbrev pub is_over : Link → Bool
is_over link = link.is_reset || (is_finished link.initiator.course && (link.is_known && is_finished link.acceptor.course))
