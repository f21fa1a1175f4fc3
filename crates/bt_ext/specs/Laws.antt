-- Laws of extended payloads and of the table.
use Rattle.std.specs.Prelude.{◌≡◌, ◌↔◌, ℕ, ◌<◌, ◌^◌, List, [], ◌++◌, length, true, Option, None, MatchOption, option_and_then, if◌then◌else◌}
use Rattle.std.specs.Str.{bytes_eq}
use Rattle.bt_bencode.specs.Trees.{Tree, Pairs}
use Rattle.bt_bencode.specs.Keys.{value_at}
use Rattle.std.specs.Option.{ForSome}
use Rattle.bt_ext.specs.Ids.{HaveBytes, metadata_name, donthave_name, metadata_id, donthave_id}
use Rattle.bt_ext.specs.Fields.{id_value, size_of}
use Rattle.bt_ext.specs.Tables.{Entries, IsTable, id_of_name, entered, entered_all, told, told_by, told_of, applied, id_after, before}
use Rattle.bt_ext.specs.Payloads.{IsExt, HasParts}
use Rattle.bt_ext.specs.Faults.{Allows, IsFault, fault_of, reason_of}
use Rattle.bt_ext.specs.Metadata.{kind_of, is_block_ok}
use Rattle.bt_ext.specs.Made.{IsMade, message_tree, message_of, handshake_tree, handshake_of}
use Rattle.bt_ext.specs.declared.metadata.Kind.{Kind}
use Rattle.bt_ext.specs.declared.ids.Registered.{Registered}
use Rattle.bt_ext.specs.declared.ids.Rules.{Rules}
use Rattle.bt_ext.specs.declared.ids.Rules.TheVariants as rules
use Rattle.bt_ext.specs.declared.ext.Ext.{Ext}
use Rattle.bt_ext.specs.declared.ext.ViewError.{ViewError}

-- an extended id and its payload are those of one value
abbrev pub OneExt : Type 0
OneExt = (reg : Registered) (e f : Ext) (id : ℕ) (payload : List ℕ) → IsExt reg e id payload → IsExt reg f id payload → e ≡ f

-- the rules allow a value exactly if it has no fault
abbrev pub AllowedHasNoFault : Type 0
AllowedHasNoFault = (r : Rules) (e : Ext) → Allows r e ↔ (fault_of r e ≡ None)

-- and exactly if there is no reason to refuse it
abbrev pub AllowedHasNoReason : Type 0
AllowedHasNoReason = (r : Rules) (e : Ext) → Allows r e ↔ (reason_of r e ≡ None)

-- a payload under an id has one fault or none: it is read or refused, and never both
abbrev pub OneFault : Type 0
OneFault = (reg : Registered) (r : Rules) (id : ℕ) (payload : List ℕ) (a b : Option ViewError) → IsFault reg r id payload a → IsFault reg r id payload b → a ≡ b

-- the dictionary that is written for a kind is of that kind
abbrev pub KindOfMade : Type 0
KindOfMade = (k : Kind) → IsMade k → kind_of (message_tree k) ≡ k

-- a metadata message that an end writes has a spelling, and the rules allow it if its block is right
abbrev pub MadeMessageIsRight : Type 0
MadeMessageIsRight = (k : Kind) (rest : List ℕ) → IsMade k → is_block_ok k (length rest) ≡ true → HasParts (message_of k rest)
    × Allows rules.Bep (message_of k rest)

-- so has an extended handshake that an end writes, and the rules allow it
abbrev pub MadeHandshakeIsRight : Type 0
MadeHandshakeIsRight = (reg : Registered) (size : Option ℕ) → HaveBytes reg → ForSome size (λ n. n < 2 ^ 63) → HasParts (handshake_of reg size)
    × Allows rules.Bep (handshake_of reg size)

-- and it tells the ids and the size that it was made of
abbrev pub MadeHandshakeTells : Type 0
MadeHandshakeTells = (reg : Registered) (size : Option ℕ) → HaveBytes reg
    → (told_of (handshake_tree reg size) ≡ told donthave_name (donthave_id reg) ++ told metadata_name (metadata_id reg))
    × (size_of (handshake_tree reg size) ≡ size)

-- entering an id changes what its name has, and no other name's id
abbrev pub EnteredByName : Type 0
EnteredByName = (name other : List ℕ) (id : ℕ) (es : Entries) → IsTable es
    → id_of_name other (entered name id es) ≡ (if bytes_eq name other then id_after name id es else id_of_name other es)

-- `m` tells of a name what its first pair with the name says
abbrev pub FirstPairTells : Type 0
FirstPairTells = (name : List ℕ) (ps : Pairs) → id_of_name name (told_by [] ps) ≡ option_and_then id_value (value_at name ps)

-- An extended handshake leaves each name's id that it doesn't tell. Of one that it tells it makes what entering it makes,
-- after the entries that were told before; and until then the name has the id that it had.
abbrev pub AppliedByName : Type 0
AppliedByName = (t : Tree) (es : Entries) (name : List ℕ) → IsTable es
    → MatchOption (id_of_name name (told_of t)) (id_of_name name (applied t es) ≡ id_of_name name es)
    (λ id. (id_of_name name (entered_all (before name (told_of t)) es) ≡ id_of_name name es)
    × (id_of_name name (applied t es) ≡ id_after name id (entered_all (before name (told_of t)) es)))

-- a table stays one: at most 256 names, each once and of at most 255 bytes, with ids above 0
abbrev pub TableStays : Type 0
TableStays = (t : Tree) (es : Entries) → IsTable es → IsTable (applied t es)
