-- What the other direction of a connection says of the end that sent it, and that receives this one.
use Rattle.std.specs.Prelude.{◌≡◌, ◌⊎◌, ◌+◌, ◌-◌, ◌^◌, ◌≤◌, ℕ, min, ⊤, Bool, true, false, List, [], ◌∷◌, ◌++◌, Option, Some, None, IsSome, option_and_then}
use Rattle.std.specs.Prelude.{Result, Ok, Err}
use Rattle.std.specs.Io.KnownBytes.{Consumes}
use Rattle.bt_bencode.specs.Views.{tree_of}
use Rattle.bt_ext.specs.declared.ext.Ext.{Ext}
use Rattle.bt_ext.specs.declared.ext.Ext.TheVariants as ext
use Rattle.bt_ext.specs.declared.ids.Rules.TheVariants.{Free}
use Rattle.bt_ext.specs.Ids.{extension_id, metadata_only, metadata_name, donthave_name}
use Rattle.bt_wire.specs.declared.context.Own.{Own}
use Rattle.bt_wire.specs.declared.item.Item.{Item}
use Rattle.bt_wire.specs.declared.item.Item.TheVariants as items
use Rattle.bt_wire.specs.Messages.{Message}
use Rattle.bt_wire.specs.declared.message.Message.TheVariants as message
use Rattle.bt_wire.specs.declared.reserved.Reserved.{Reserved}
use Rattle.bt_wire.specs.Streams.{Outcome, IsVerdict}
use Rattle.bt_feed.specs.Feeds.{FeedState}
use Rattle.bt_io.specs.Seen.{SourceSeen, EndRead, ReadFailed}
use Rattle.bt_text.specs.declared.ended.ToolFault.{ToolFault}
use Rattle.bt_text.specs.declared.ended.ToolFault.TheVariants as fault
use Rattle.bt_ext.specs.Fields.{told_as}
use Rattle.bt_jobs.specs.declared.other.Announced.{Announced}
use Rattle.bt_jobs.specs.declared.other.Listener.{Listener}
use Rattle.bt_jobs.specs.declared.other.OtherError.{OtherError}
use Rattle.bt_jobs.specs.declared.other.OtherError.TheVariants as errors
use Rattle.bt_jobs.specs.Printed.{IsReadTo, SoFar}

-- ---- what items say

abbrev pub or_else : {A : Type 0} → Option A → Option A → Option A
or_else (Some a) o = Some a
or_else None o = o

-- the first value that f finds in an item
abbrev pub first_of : {A : Type 0} → (Item → Option A) → List (ℕ × Item) → Option A
first_of f [] = None
first_of f (x ∷ xs) = or_else (f x.1) (first_of f xs)

-- the reserved bits of a handshake
abbrev pub reserved_of : Item → Option Reserved
reserved_of (items.Handshake h) = Some h.reserved
reserved_of (items.Message m) = None

abbrev pub id_in : List ℕ → Ext → Option ℕ
id_in name (ext.Handshake dict rest) = told_as name (tree_of dict)
id_in name (ext.Metadata dict rest) = None
id_in name (ext.DontHave index) = None
id_in name (ext.Raw id payload) = None

abbrev pub id_said : List ℕ → Message → Option ℕ
id_said name (message.Extended e) = id_in name e
id_said name m = None

-- the id that an extended handshake has for an extension (BEP 10): 0 says that the extension isn't wanted
abbrev pub id_of : List ℕ → Item → Option ℕ
id_of name (items.Handshake h) = None
id_of name (items.Message m) = id_said name m

-- the first id for it
abbrev pub first_id : List ℕ → List (ℕ × Item) → Option ℕ
first_id name xs = first_of (id_of name) xs

abbrev pub announced : Option Reserved → Option ℕ → Option ℕ → Option Announced
announced None metadata donthave = None
announced (Some reserved) metadata donthave =
    Some (record { reserved = reserved; metadata = option_and_then extension_id metadata; donthave = option_and_then extension_id donthave })

-- the reserved bits of the handshake, and for `ut_metadata` and `lt_donthave` the id in the first extended handshake that has one
abbrev pub own_of_other : List (ℕ × Item) → Option Announced
own_of_other xs = announced (first_of reserved_of xs) (first_id metadata_name xs) (first_id donthave_name xs)

-- ---- what a stream says

-- The receiver by which the other direction is read: it has the extensions that its sender may have, and refuses no more than
-- every reader has to.
abbrev pub reader_of_other : Own
reader_of_other = record { reserved = record { 0 = 0x100005 }; info_hash = None; pieces = None; reg = metadata_only None; rules = Free; limit = 1048576 }

-- the answer is what the items say; a fault says nothing of them
abbrev pub IsSaidBy : List (ℕ × Item) → Result Announced OtherError → Type 0
IsSaidBy xs (Ok a) = own_of_other xs ≡ Some a
IsSaidBy xs (Err errors.NoHandshake) = own_of_other xs ≡ None
IsSaidBy xs (Err (errors.Fault f)) = ⊤

-- the answer is what the items of these bytes say
abbrev pub IsSaidIn : List ℕ → Result Announced OtherError → Type 0
IsSaidIn b r = (v : Outcome) → IsVerdict reader_of_other b v → IsSaidBy v.items r

-- b was read. The answer is what the items of b and of whatever follows say; or the end was read, and it is what those of b say.
abbrev pub IsLearnt : SourceSeen → SourceSeen → Result Announced OtherError → Type 0
IsLearnt before after r =
    (b : List ℕ) × Consumes before.left after.left b × (((later : List ℕ) → IsSaidIn (b ++ later) r) ⊎ (EndRead before after × IsSaidIn b r))

-- one of these isn't known
abbrev pub IsUnknown : Option Reserved → Option ℕ → Option ℕ → Type 0
IsUnknown reserved metadata donthave = (reserved ≡ None) ⊎ ((metadata ≡ None) ⊎ (donthave ≡ None))

-- the items of these bytes leave the answer open: something isn't known, and nothing is refused
abbrev pub IsOpen : List ℕ → Type 0
IsOpen b =
    (v : Outcome) → IsVerdict reader_of_other b v
    → IsUnknown (first_of reserved_of v.items) (first_id metadata_name v.items) (first_id donthave_name v.items) × (v.refusal ≡ None)

-- what was read leaves the answer open
abbrev pub IsOpenAfter : Option (List ℕ) → Option (List ℕ) → Type 0
IsOpenAfter left left' = (b : List ℕ) × Consumes left left' b × IsOpen b

-- where a fault comes from, by what is seen of the source: from a read that failed, or from the greatest number of reads without the end
abbrev pub IsFaultOfOther : Result Announced OtherError → SourceSeen → SourceSeen → Type 0
IsFaultOfOther (Ok a) before after = after.failed ≡ before.failed
IsFaultOfOther (Err errors.NoHandshake) before after = after.failed ≡ before.failed
IsFaultOfOther (Err (errors.Fault fault.Read)) before after = ReadFailed before after
IsFaultOfOther (Err (errors.Fault fault.Turns)) before after = (min (before.reads + 2 ^ 32) (2 ^ 64 - 1) ≤ after.reads) × (after.ends ≡ before.ends)
IsFaultOfOther (Err (errors.Fault fault.Memory)) before after = after.failed ≡ before.failed
IsFaultOfOther (Err (errors.Fault f)) before after = ⊥

-- ---- for private contracts

-- what was heard of these items
abbrev pub IsHeard : List (ℕ × Item) → Listener → Type 0
IsHeard xs l =
    (l.reserved ≡ first_of reserved_of xs) × (l.metadata ≡ first_id metadata_name xs) × (l.donthave ≡ first_id donthave_name xs)

-- an item more
abbrev pub Hears : Listener → ℕ × Item → Listener → Type 0
Hears old x new =
    (new.reserved ≡ or_else old.reserved (reserved_of x.1)) × (new.metadata ≡ or_else old.metadata (id_of metadata_name x.1))
    × (new.donthave ≡ or_else old.donthave (id_of donthave_name x.1))

-- b was read, these are its items, and what they say was heard: it leaves the answer open
pub record IsListening (b : List ℕ) (xs : List (ℕ × Item)) (f : FeedState) (l : Listener) : Type 0 where
  pub read : IsReadTo reader_of_other b xs f
  pub heard : IsHeard xs l
  pub unknown : IsUnknown l.reserved l.metadata l.donthave
  pub now : Outcome
  pub is : IsVerdict reader_of_other b now
  pub unrefused : now.refusal ≡ None

-- nothing that follows changes what was heard: all is known, or the stream is refused, or it ends here
abbrev pub IsSettled : Type 0 → Listener → Outcome → Type 0
IsSettled AtEnd l v = (IsSome l.reserved × IsSome l.metadata × IsSome l.donthave) ⊎ (IsSome v.refusal ⊎ AtEnd)

-- a turn read some bytes more: what they say was heard, and may be settled
abbrev pub IsTurnHeard : SoFar → SourceSeen → SourceSeen → FeedState → Listener → Result Bool ToolFault → Type 0
IsTurnHeard so before after g l (Ok false) =
    (more : List ℕ) × (ys : List (ℕ × Item)) × Consumes before.left after.left more × IsListening (so.bytes ++ more) (so.items ++ ys) g l
IsTurnHeard so before after g l (Ok true) =
    (more : List ℕ) × (v : Outcome) × Consumes before.left after.left more × IsVerdict reader_of_other (so.bytes ++ more) v × IsHeard v.items l
    × IsSettled (EndRead before after) l v
IsTurnHeard so before after g l (Err f) = (more : List ℕ) × Consumes before.left after.left more
