-- When a message may be sent, and what its value is refused for.
use Rattle.std.specs.Prelude.{◌≡◌, ℕ, suc, ◌≤◌, ◌<◌, ◌^◌, true, false, ◌&&◌, IfSome, length, Some, Result, Ok, Err, ⊤, ◌⊎◌}
use Rattle.std.specs.Global.{Vec}
use Rattle.bt_wire.specs.declared.context.Context.{Context}
use Rattle.bt_wire.specs.declared.context.Order.{Order}
use Rattle.bt_ext.specs.Faults.{Allows}
use Rattle.bt_ext.specs.Payloads.{index_of}
use Rattle.bt_wire.specs.Messages.{Message}
use Rattle.bt_wire.specs.declared.message.Message.TheVariants as m
use Rattle.bt_wire.specs.declared.fault.Fault.{Fault}
use Rattle.bt_wire.specs.declared.fault.Fault.TheVariants as fault
use Rattle.bt_wire.specs.declared.fault.Reason.{Reason}
use Rattle.bt_wire.specs.declared.fault.Reason.TheVariants.{TooLong}
use Rattle.bt_wire.specs.declared.fault.EncodeError.{EncodeError}
use Rattle.bt_wire.specs.declared.fault.EncodeError.TheVariants as encode
use Rattle.bt_wire.specs.Bitfields.{has_spare}
use Rattle.bt_wire.specs.Messages.{body, spell, fields_of, kind_in, index_in, field_in, is_payload, IsShaped, IsInRange}
use Rattle.bt_wire.specs.Faults.{IsFault, allows, field_size, is_agreed, is_beyond, is_index_beyond, is_strict, is_late, is_missing}

-- the rules allow an extended value (BEP 3, BEP 9, BEP 10), and the piece index that it may be is below the known piece count
abbrev pub IsAllowed : Context → Message → Type 0
IsAllowed c (m.Extended e) = Allows c.rules e × (is_index_beyond c.pieces (index_of e) ≡ false)
IsAllowed c msg = ⊤

-- it has a spelling of its own, that isn't above the limit; both ends have agreed on the extension that it needs; where the
-- piece count is known, its piece index is below it, and a bitfield has a bit for each piece and no other that is 1; and
-- under the strict rules its id has a meaning, bitfield, have all and have none come first, as they do where the Fast
-- Extension is on, and an extended value's dictionary, fields and block are as the rules want them, or its piece index is below
-- the piece count
pub record IsLegal (c : Context) (o : Order) (m : Message) : Type 0 where
  pub shaped : IsShaped c m
  pub short : length (body c m) ≤ c.limit
  pub agreed : is_agreed c (kind_in m) ≡ true
  pub indexed : IfSome (index_in (fields_of c m)) (λ index. is_beyond c.pieces index ≡ false)
  pub sized : IfSome (field_in (fields_of c m)) (λ bits. allows (field_size c.pieces) (suc (length bits)) ≡ true)
  pub spare : IfSome (field_in (fields_of c m)) (λ bits. has_spare c.pieces bits ≡ false)
  pub known : (is_strict c && is_payload (fields_of c m)) ≡ false
  pub in_time : (is_strict c && is_late o (kind_in m)) ≡ false
  pub opened : (is_strict c && is_missing c o (kind_in m)) ≡ false
  pub allowed : IsAllowed c m

-- m may be sent from the offset s on
pub record IsSaid (c : Context) (o : Order) (s : ℕ) (m : Message) : Type 0 where
  pub in_range : IsInRange c m
  pub legal : IsLegal c o m
  pub start : s < 2 ^ 62

-- the spelling has a fault for this reason, or is too long for a length of four bytes
abbrev pub IsRefusedFor : Context → Order → Message → Reason → Type 0
IsRefusedFor c o m reason =
    ((2 ^ 32 ≤ length (body c m)) × (reason ≡ TooLong))
    ⊎ ((length (body c m) < 2 ^ 32) × ((at : ℕ) × IsFault c o 0 (spell c m) (Some (record { at = at; reason = reason }))))

-- why a value may not be sent: it has no spelling of its own, or that is refused
abbrev pub Refuses : Context → Order → Message → Fault → Type 0
Refuses c o m fault.Shape = ¬ IsShaped c m
Refuses c o m (fault.Reason reason) = IsShaped c m × IsRefusedFor c o m reason

-- what encoding answers
abbrev pub IsEncoded : Context → Order → Message → Result (Vec ℕ) EncodeError → Type 0
IsEncoded c o m (Ok bytes) = IsLegal c o m × (bytes.items ≡ spell c m)
IsEncoded c o m (Err (encode.Illegal f)) = Refuses c o m f
IsEncoded c o m (Err encode.Memory) = IsLegal c o m
