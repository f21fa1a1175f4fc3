-- How a connection is closed (RFC 9293 3.5.2, 3.6).
use Rattle.std.specs.Prelude.{◌≡◌, ℕ, ◌-◌, Bool, false, ◌||◌, ◌&&◌, not, nat_eq, nat_le, nat_lt, Option, Some, None, is_some}
use Rattle.std.specs.Bool.{then_some}
use Rattle.std.specs.Option.{option_or}
use Rattle.bt_remarks.specs.declared.events.Side.{Side}
use Rattle.bt_remarks.specs.declared.events.Side.TheVariants.{A, B}
use Rattle.bt_packet.specs.declared.tcp.Flags.{Flags}
use Rattle.bt_flow.specs.declared.flow.Flow.{Flow}
use Rattle.bt_flow.specs.Flows.{IsClosed, high_in}
use Rattle.bt_talk.specs.declared.closing.When.{When}
use Rattle.bt_talk.specs.declared.closing.Closed.{Closed}
use Rattle.bt_talk.specs.declared.closing.Closing.{Closing}
use Rattle.bt_talk.specs.Pasts.{Past}

abbrev pub still_open : Closing
still_open = record { closed = None; over = None }

-- The first FIN or RST closes.
abbrev pub closed_after : Option Closed → Flags → Closed → Option Closed
closed_after old flags now = option_or old (then_some (flags.fin || flags.rst) now)

-- A RST ends a connection, or what comes when both FINs were reached and acknowledged; what follows puts its end off.
abbrev pub over_after : Option ℕ → Bool → ℕ → Option ℕ
over_after old over nanos = then_some (is_some old || over) nanos

-- Four seconds later no segment is awaited.
abbrev pub is_quiet : Option ℕ → ℕ → Bool
is_quiet None now = false
is_quiet (Some over) now = nat_le 4000000000 (now - over)

-- how far a side's captured bytes reached
abbrev pub high_at : Side → Closed → ℕ
high_at A closed = closed.high_a
high_at B closed = closed.high_b

-- What a side sent and this flow put together is closed, or it isn't.
abbrev pub IsClosedOf : Past → Flow → Bool → Type 0
IsClosedOf p flow closed = IsClosed p.heard p.out flow.stream closed

-- A side sent a segment with these flags, after which both have sent this. A RST ends a connection, and so do both FINs.
pub record Closes (flags : Flags) (when : When) (side : Side) (a b : Past) (of_a of_b : Flow) (old new : Closing) : Type 0 where
  pub a_closed : Bool
  pub b_closed : Bool
  pub a_is : IsClosedOf a of_a a_closed
  pub b_is : IsClosedOf b of_b b_closed
  pub closed : new.closed ≡ closed_after old.closed flags (record {
    side = side;
    by_reset = flags.rst;
    when = when;
    high_a = high_in a.heard of_a.stream;
    high_b = high_in b.heard of_b.stream;
  })
  pub over : new.over ≡ over_after old.over (flags.rst || (a_closed && b_closed)) when.nanos

-- ---- the next connection between the same ends

-- A SYN without ACK begins another connection, if its sender has sent something, and it isn't that side's SYN again (RFC 9293 3.5).
abbrev pub opens_by : Flags → ℕ → Option ℕ → ℕ → Bool
opens_by flags high (Some number) sequence = flags.syn && (not flags.ack && not (nat_eq number sequence))
opens_by flags high None sequence = flags.syn && (not flags.ack && nat_lt 0 high)
