-- What the first five bytes of a message say, and the bytes of one message.
use Rattle.std.specs.Prelude.{◌≡◌, ◌==◌, ℕ, ◌+◌, ◌≤◌, List, length, nat_lt, Option, Some, None, true, if◌then◌else◌}
use Rattle.bt_wire.specs.declared.context.Context.{Context}
use Rattle.bt_wire.specs.declared.context.Order.{Order}
use Rattle.bt_wire.specs.Messages.{Message}
use Rattle.bt_wire.specs.declared.fault.DecodeError.{DecodeError}
use Rattle.bt_wire.specs.declared.fault.DecodeError.TheVariants as decode
use Rattle.bt_wire.specs.declared.fault.Header.{Header}
use Rattle.bt_wire.specs.declared.fault.Header.TheVariants as headers
use Rattle.bt_wire.specs.declared.fault.Refused.{Refused}
use Rattle.bt_wire.specs.Messages.{spell, fields_of, keeps_bytes}
use Rattle.bt_wire.specs.Faults.{said_length, header_fault, IsFault}
use Rattle.bt_wire.specs.Legal.{IsSaid}

-- four bytes are needed, and five but for a length of 0; then the message's whole length is known
abbrev pub header_by : Option Refused → List ℕ → Header
header_by (Some f) b = headers.Refused f.at f.reason
header_by None b = if nat_lt (length b) 5 then headers.Need 5 else headers.Window (4 + said_length b)

unfoldable pub header_of : Context → Order → List ℕ → Header
header_of c o b =
    if nat_lt (length b) 4 then headers.Need 4
    else if said_length b == 0 then headers.Window 4
    else header_by (header_fault c o b) b

-- these are the bytes of one message, and its first five have no fault
pub record IsWindow (c : Context) (o : Order) (w : List ℕ) : Type 0 where
  pub long : 4 ≤ length w
  pub exact : 4 + said_length w ≡ length w
  pub header : header_fault c o w ≡ None

-- the window is the spelling of the message, which may be sent
pub record IsRead (c : Context) (o : Order) (w : List ℕ) (m : Message) : Type 0 where
  pub said : IsSaid c o 0 m
  pub spelled : spell c m ≡ w

-- why a window isn't read; out of memory only where the message keeps bytes
abbrev pub RefusesWindow : Context → Order → List ℕ → DecodeError → Type 0
RefusesWindow c o w (decode.Refused at reason) = IsFault c o 0 w (Some (record { at = at; reason = reason }))
RefusesWindow c o w decode.Memory = (m : Message) × IsRead c o w m × (keeps_bytes (fields_of c m) ≡ true)
