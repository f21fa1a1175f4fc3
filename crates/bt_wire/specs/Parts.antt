-- For proofs and private contracts alone: the message that an id and the bytes after it are, read from left to right.
use Rattle.std.specs.Prelude.{◌≡◌, ◌==◌, List, ℕ, suc, ◌+◌, [], length, drop, Bool, true, false, IfSome, Option, Some, None, if◌then◌else◌}
use Rattle.bt_ext.specs.declared.ext.ViewError.{ViewError}
use Rattle.bt_ext.specs.declared.ext.ViewError.TheVariants as error
use Rattle.bt_wire.specs.declared.context.Context.{Context}
use Rattle.bt_wire.specs.declared.ids.Kind.{Kind}
use Rattle.bt_wire.specs.declared.ids.Shape.{Shape}
use Rattle.bt_wire.specs.declared.ids.Shape.TheVariants.{Nothing, Index, Part, Block, Port, Field, Extended}
use Rattle.bt_wire.specs.Messages.{Message}
use Rattle.bt_wire.specs.declared.message.Message.TheVariants as m
use Rattle.bt_ext.specs.Faults.{Allows, fault_of}
use Rattle.bt_ext.specs.declared.ext.Ext.{Ext}
use Rattle.bt_ext.specs.declared.ext.ExtReason.{ExtReason}
use Rattle.bt_ext.specs.declared.ext.ExtReason.TheVariants as reasons
use Rattle.bt_wire.specs.declared.fault.Reason.{Reason}
use Rattle.bt_wire.specs.declared.fault.Reason.TheVariants.{BadIndex, SpareBits, Unsorted, BadField, BadBlock}
use Rattle.bt_wire.specs.declared.fault.Refused.{Refused}
use Rattle.bt_wire.specs.Bitfields.{has_spare}
use Rattle.bt_wire.specs.Numbers.{number16, number32}
use Rattle.bt_wire.specs.Ids.{kind_of}
use Rattle.bt_wire.specs.Messages.{Fields, none, index, part, block, port, field, payload, index_in, field_in}
use Rattle.bt_wire.specs.Faults.{allows, field_size, fields_at, is_index_beyond, placed_by, index_fault}

-- the fields of a shape that bytes are; of an extended message bytes are read apart
abbrev pub reading : Shape → List ℕ → Fields
reading Nothing bytes = none
reading Index bytes = index (number32 bytes)
reading Part bytes = part (number32 bytes) (number32 (drop 4 bytes)) (number32 (drop 8 bytes))
reading Block bytes = block (number32 bytes) (number32 (drop 4 bytes)) (drop 8 bytes)
reading Port bytes = port (number16 bytes)
reading Field bytes = field bytes
reading Extended bytes = none

-- the same, or the payload of an id without a meaning
abbrev pub reading_by : Option Shape → List ℕ → Fields
reading_by None bytes = payload bytes
reading_by (Some shape) bytes = reading shape bytes

-- the parts of fields
abbrev pub first_in : Fields → ℕ
first_in (index i) = i
first_in (part i b l) = i
first_in (block i b bytes) = i
first_in (port p) = p
first_in other = 0

abbrev pub second_in : Fields → ℕ
second_in (part i b l) = b
second_in (block i b bytes) = b
second_in other = 0

abbrev pub third_in : Fields → ℕ
third_in (part i b l) = l
third_in other = 0

abbrev pub bytes_in : Fields → List ℕ
bytes_in (block i b bytes) = bytes
bytes_in (field bits) = bits
bytes_in other = []

-- the message of an id with a meaning, but for an extended one
abbrev pub known : ℕ → Fields → Message
known n f =
    if n == 0 then m.Choke
    else if n == 1 then m.Unchoke
    else if n == 2 then m.Interested
    else if n == 3 then m.NotInterested
    else if n == 4 then m.Have (first_in f)
    else if n == 5 then m.Bitfield (bytes_in f)
    else if n == 6 then m.Request (first_in f) (second_in f) (third_in f)
    else if n == 7 then m.Piece (first_in f) (second_in f) (bytes_in f)
    else if n == 8 then m.Cancel (first_in f) (second_in f) (third_in f)
    else if n == 9 then m.Port (first_in f)
    else if n == 13 then m.Suggest (first_in f)
    else if n == 14 then m.HaveAll
    else if n == 15 then m.HaveNone
    else if n == 16 then m.Reject (first_in f) (second_in f) (third_in f)
    else if n == 17 then m.AllowedFast (first_in f)
    else m.KeepAlive

abbrev pub named : Option Kind → ℕ → List ℕ → Message
named None n bytes = m.Unknown n bytes
named (Some k) n bytes = known n (reading k.shape bytes)

unfoldable pub made : ℕ → List ℕ → Message
made n bytes = named (kind_of n) n bytes

-- ---- the fault of fields, where the message has this length

abbrev pub is_field_spare : Option ℕ → Option (List ℕ) → Bool
is_field_spare pieces None = false
is_field_spare pieces (Some bits) = has_spare pieces bits

abbrev pub broken_field : Option ℕ → ℕ → Fields → Option Refused
broken_field pieces length f =
    if is_index_beyond pieces (index_in f) then Some (record { at = fields_at; reason = BadIndex })
    else if is_field_spare pieces (field_in f) then Some (record { at = 3 + length; reason = SpareBits })
    else None

-- a bitfield has a bit for each piece
abbrev pub IsSized : Option ℕ → Fields → Type 0
IsSized pieces f = IfSome (field_in f) (λ bits. allows (field_size pieces) (suc (length bits)) ≡ true)

-- the place of a payload's fault
abbrev pub place_in : ViewError → ℕ
place_in error.BadExtLength = 0
place_in (error.BadBencode at) = at
place_in (error.Unsorted at) = at
place_in error.BadField = 0
place_in (error.BadBlock at) = at

-- 2 to the number of bits that are left of eight, where some are used
abbrev pub bound_of : ℕ → ℕ
bound_of used =
    if used == 1 then 128
    else if used == 2 then 64
    else if used == 3 then 32
    else if used == 4 then 16
    else if used == 5 then 8
    else if used == 6 then 4
    else if used == 7 then 2
    else 1

-- the reason of a message for that of its extended value
abbrev pub reason_from : ExtReason → Reason
reason_from reasons.Unsorted = Unsorted
reason_from reasons.BadField = BadField
reason_from reasons.BadBlock = BadBlock

-- the rules allow an extended value with this index, or it has a fault for this reason
pub data IsJudgedExt (c : Context) (e : Ext) (r : Option Reason) : Type 0 where
  fine : Allows c.rules e → index_fault c.pieces e ≡ None → r ≡ None → IsJudgedExt c e r
  beyond : (f : Refused) → Allows c.rules e → index_fault c.pieces e ≡ Some f → r ≡ Some f.reason → IsJudgedExt c e r
  faulty : (fault : ViewError) → fault_of c.rules e ≡ Some fault → r ≡ Some ((placed_by fault).reason) → IsJudgedExt c e r

abbrev pub IsJudged : Context → Message → Option Reason → Type 0
IsJudged c (m.Extended e) r = IsJudgedExt c e r
IsJudged c msg r = r ≡ None
