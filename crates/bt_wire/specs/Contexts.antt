-- What may differ between the context that a sender takes its peer to have and the peer's own.
use Rattle.std.specs.Prelude.{◌≡◌, ℕ, ◌<◌, ◌^◌, ◌⊎◌, false, Option, None, ⊤}
use Rattle.bt_ext.specs.Ids.{metadata_id, donthave_id, is_metadata, is_donthave}
use Rattle.bt_ext.specs.Payloads.{index_of}
use Rattle.bt_ext.specs.declared.ext.Ext.TheVariants as ext
use Rattle.bt_ext.specs.declared.ids.Registered.{Registered}
use Rattle.bt_wire.specs.declared.context.Context.{Context}
use Rattle.bt_wire.specs.declared.context.Order.{Order}
use Rattle.bt_wire.specs.declared.fault.Fault.{Fault}
use Rattle.bt_wire.specs.Messages.{Message}
use Rattle.bt_wire.specs.declared.message.Message.TheVariants as m
use Rattle.bt_wire.specs.Legal.{IsLegal, Refuses}
use Rattle.bt_wire.specs.Messages.{fields_of, index_in, field_in, spell, IsInRange}

-- it isn't spelled under the registered id of `ut_metadata`, and isn't raw under it
abbrev pub UsesNoMetadataId : Registered → Message → Type 0
UsesNoMetadataId reg (m.Extended (ext.Metadata dict rest)) = ⊥
UsesNoMetadataId reg (m.Extended (ext.Raw id payload)) = is_metadata reg id ≡ false
UsesNoMetadataId reg other = ⊤

-- it isn't spelled under the registered id of `lt_donthave`, and isn't raw under it
abbrev pub UsesNoDontHaveId : Registered → Message → Type 0
UsesNoDontHaveId reg (m.Extended (ext.DontHave index)) = ⊥
UsesNoDontHaveId reg (m.Extended (ext.Raw id payload)) = is_donthave reg id ≡ false
UsesNoDontHaveId reg other = ⊤

-- the piece index of a message, if it has one
abbrev pub piece_in : Context → Message → Option ℕ
piece_in c (m.Extended e) = index_of e
piece_in c msg = index_in (fields_of c msg)

-- the piece count is the same, or isn't known any more, or the message has neither an index nor a bitfield
abbrev pub PiecesSuit : Context → Message → Option ℕ → Type 0
PiecesSuit c msg pieces = (pieces ≡ c.pieces) ⊎ ((pieces ≡ None) ⊎ ((piece_in c msg ≡ None) × (field_in (fields_of c msg) ≡ None)))

-- each registered id is the same, or the message doesn't use it
pub record IdsSuit (c : Context) (msg : Message) (reg : Registered) : Type 0 where
  pub metadata : (metadata_id reg ≡ metadata_id c.reg) ⊎ UsesNoMetadataId reg msg
  pub donthave : (donthave_id reg ≡ donthave_id c.reg) ⊎ UsesNoDontHaveId reg msg

-- the context with another piece count and other ids
abbrev pub moved : Context → Option ℕ → Registered → Context
moved c pieces reg = record c { pieces = pieces; reg = reg }

-- a legal message stays legal where only that differs, with the same spelling
abbrev pub LegalElsewhere : Type 0
LegalElsewhere = (c : Context) (o : Order) (msg : Message) (pieces : Option ℕ) (reg : Registered) → PiecesSuit c msg pieces → IdsSuit c msg reg
    → IsLegal c o msg → IsLegal (moved c pieces reg) o msg × (spell (moved c pieces reg) msg ≡ spell c msg)

-- a message that is legal isn't refused
abbrev pub LegalIsNotRefused : Type 0
LegalIsNotRefused = (c : Context) (o : Order) (msg : Message) (f : Fault) → c.limit < 2 ^ 32 → IsInRange c msg → IsLegal c o msg → Refuses c o msg f → ⊥

-- and a message is refused for one fault
abbrev pub RefusalIsOne : Type 0
RefusalIsOne = (c : Context) (o : Order) (msg : Message) (f g : Fault) → Refuses c o msg f → Refuses c o msg g → f ≡ g
