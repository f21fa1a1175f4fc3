-- For proofs and private contracts alone: the rules on an id, read from its kind.
use Rattle.std.specs.Prelude.{ℕ, not, ◌&&◌, Option, Some, None, is_some, if◌then◌else◌}
use Rattle.bt_wire.specs.declared.context.Context.{Context}
use Rattle.bt_wire.specs.declared.context.Order.{Order}
use Rattle.bt_wire.specs.declared.fault.Reason.{Reason}
use Rattle.bt_wire.specs.declared.fault.Reason.TheVariants.{UnknownId, NotNegotiated, WrongLength, Late, Missing}
use Rattle.bt_wire.specs.declared.fault.Refused.{Refused}
use Rattle.bt_wire.specs.declared.ids.Kind.{Kind}
use Rattle.bt_wire.specs.Ids.{kind_of, shape_by}
use Rattle.bt_wire.specs.Faults.{allows, size_by, is_strict, is_agreed, is_late, is_missing}

abbrev pub found : ℕ → Reason → Option Refused
found at reason = Some (record { at = at; reason = reason })

-- the first rule that a message of this kind and this length breaks
abbrev pub broken_by : Context → Order → Option Kind → ℕ → Option Refused
broken_by c o k length =
    if is_strict c && not (is_some k) then found 4 UnknownId
    else if not (is_agreed c k) then found 4 NotNegotiated
    else if not (allows (size_by c (shape_by k)) length) then found 0 WrongLength
    else if is_strict c && is_late o k then found 4 Late
    else if is_strict c && is_missing c o k then found 4 Missing
    else None

-- of a message with this id, or of a keep-alive, which has none
abbrev pub broken_any : Context → Order → Option ℕ → ℕ → Option Refused
broken_any c o None length = None
broken_any c o (Some id) length = broken_by c o (kind_of id) length
