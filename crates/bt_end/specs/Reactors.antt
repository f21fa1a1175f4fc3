-- For private contracts: an end but for its feed, and what handling an item does to it.
use Rattle.std.specs.Prelude.{◌≡◌, ◌+◌, ◌≤◌, ◌⊎◌, Bool, [], ◌∷◌, ◌++◌, length, Option, Some, None, Result, Ok, Err, ⊤}
use Rattle.bt_bencode.specs.Views.{tree_of}
use Rattle.bt_bencode.specs.Trees.{Tree}
use Rattle.bt_ext.specs.Fields.{size_of}
use Rattle.bt_ext.specs.Metadata.{kind_of}
use Rattle.bt_ext.specs.Tables.{Entries, applied}
use Rattle.bt_ext.specs.Updates.{IsUpdate}
use Rattle.bt_ext.specs.declared.ext.Ext.{Ext}
use Rattle.bt_ext.specs.declared.ext.Ext.TheVariants as ext
use Rattle.bt_wire.specs.declared.item.Item.{Item}
use Rattle.bt_wire.specs.declared.item.Item.TheVariants as items
use Rattle.bt_wire.specs.Messages.{Message}
use Rattle.bt_wire.specs.declared.message.Message.TheVariants as m
use Rattle.bt_metadata.specs.Assemblies.{AssemblyState}
use Rattle.bt_end.specs.Ends.{EndState, Reaction, spelled, belief, queueing, begun, assembly_of}
use Rattle.bt_end.specs.Halves.{unsaid}
use Rattle.bt_end.specs.declared.end.SayError.{SayError}
use Rattle.bt_end.specs.declared.end.SayError.TheVariants as say_error
use Rattle.bt_wire.specs.Legal.{IsLegal, Refuses}
use Rattle.bt_wire.specs.Messages.{spell}
use Rattle.bt_end.specs.Parts.{part_of}
use Rattle.bt_end.specs.declared.reactor.Reactor.{Reactor}
use Rattle.bt_end.specs.declared.reactor.Plan.{Plan}
use Rattle.bt_end.specs.declared.reactor.Plan.TheVariants.{Learn, Metadata}

abbrev pub end_of : {A : Type 0} → Reactor A → EndState
end_of r = record {
  own = r.own;
  handshake = r.handshake;
  announce = r.announce;
  window = r.window;
  context = r.context;
  receives = r.receives;
  sends = r.sends;
  table = r.table;
  part = part_of r.part;
  mismatches = r.mismatches;
}

abbrev pub learned : EndState → Entries → Option AssemblyState → EndState
learned e table assembly = record e { table = table; part = begun assembly e.part }

-- the change of the table, the size and the assembly that an extended handshake's dictionary makes
abbrev pub IsLesson : {A : Type 0} → EndState → Tree → Plan A → Type 0
IsLesson e t (Learn update size assembly) =
    IsUpdate e.table (applied t e.table) update × (size ≡ size_of t) × (assembly ≡ assembly_of e.handshake.info_hash e.part (size_of t))
IsLesson e t plan = ⊥

-- what is found in an extended message, and allocated for it
abbrev pub IsPlanOf : {A : Type 0} → EndState → Ext → Plan A → Type 0
IsPlanOf e (ext.Handshake dict rest) plan = IsLesson e (tree_of dict) plan
IsPlanOf e (ext.Metadata dict rest) plan = plan ≡ Metadata (kind_of (tree_of dict))
IsPlanOf e x plan = ⊤

abbrev pub IsPlan : {A : Type 0} → EndState → Item → Plan A → Type 0
IsPlan e (items.Message (m.Extended x)) plan = IsPlanOf e x plan
IsPlan e item plan = ⊤

-- the end is the reaction's, and its messages follow what is to be sent
pub record IsReacted {A : Type 0} (old new : Reactor A) (r : Reaction) : Type 0 where
  pub end : end_of new ≡ r.end
  pub queued : new.outbox.bytes ≡ old.outbox.bytes ++ spelled r.end r.queued
  pub bound : length new.outbox.bytes ≤ length old.outbox.bytes + 16610

-- ---- sayings

-- the end and what it sends are the same
pub record IsSame {A : Type 0} (old new : Reactor A) : Type 0 where
  pub end : end_of new ≡ end_of old
  pub bytes : new.outbox.bytes ≡ old.outbox.bytes

-- its spelling follows what is to be sent
pub record IsPut {A : Type 0} (old new : Reactor A) (msg : Message) : Type 0 where
  pub end : end_of new ≡ (queueing (end_of old) (msg ∷ [])).end
  pub queued : new.outbox.bytes ≡ old.outbox.bytes ++ spell (belief (end_of old)) msg
  pub legal : IsLegal (belief (end_of old)) old.sends msg
  pub bound : length new.outbox.bytes ≤ length old.outbox.bytes + (4 + old.own.limit)

abbrev pub IsQueued : {A : Type 0} → Reactor A → Message → Result Unit SayError → Reactor A → Type 0
IsQueued a msg (Ok x) b = IsPut a b msg
IsQueued a msg (Err (say_error.Illegal f)) b = Refuses (belief (end_of a)) a.sends msg f × IsSame a b
IsQueued a msg (Err say_error.Memory) b = IsLegal (belief (end_of a)) a.sends msg × IsSame a b
IsQueued a msg (Err e) b = ⊥

abbrev pub unspoken : {A : Type 0} → Reactor A → Bool → Message → Option SayError
unspoken a refused msg = unsaid (end_of a) refused (length a.outbox.bytes) msg

-- what saying does
abbrev pub IsSpoken : {A : Type 0} → Reactor A → Bool → Message → Result Unit SayError → Reactor A → Type 0
IsSpoken a refused msg (Ok x) b = (unspoken a refused msg ≡ None) × IsPut a b msg
IsSpoken a refused msg (Err e) b = IsSame a b × ((unspoken a refused msg ≡ Some e) ⊎ ((unspoken a refused msg ≡ None) × IsQueued a msg (Err e) b))
