-- What the rules ask of an extended payload, and the first of its faults.
use Rattle.std.specs.Prelude.{◌≡◌, ◌≢◌, ℕ, List, length, Bool, true, false, not, Option, Some, None, option_and_then, IsTrue, ⊤}
use Rattle.bt_bencode.specs.Bencoding.{ben, IsPlace}
use Rattle.bt_bencode.specs.Payloads.{BeginsWithNone}
use Rattle.bt_bencode.specs.Keys.{unsorted, IsSorted}
use Rattle.bt_bencode.specs.Trees.{Tree}
use Rattle.bt_bencode.specs.Views.{tree_of}
use Rattle.bt_ext.specs.Ids.{needs_dict, donthave_id}
use Rattle.bt_ext.specs.Payloads.{IsExt}
use Rattle.bt_ext.specs.Fields.{has_bad_field}
use Rattle.bt_ext.specs.Metadata.{kind_of, is_block_ok, is_malformed}
use Rattle.bt_ext.specs.declared.ids.Registered.{Registered}
use Rattle.bt_ext.specs.declared.ids.Rules.{Rules}
use Rattle.bt_ext.specs.declared.ids.Rules.TheVariants as rules
use Rattle.bt_ext.specs.declared.ext.Ext.{Ext}
use Rattle.bt_ext.specs.declared.ext.Ext.TheVariants as ext
use Rattle.bt_ext.specs.declared.ext.ViewError.{ViewError}
use Rattle.bt_ext.specs.declared.ext.ViewError.TheVariants as error
use Rattle.bt_ext.specs.declared.ext.ExtError.{ExtError}
use Rattle.bt_ext.specs.declared.ext.ExtError.TheVariants as read_error
use Rattle.bt_ext.specs.declared.ext.ExtReason.{ExtReason}
use Rattle.bt_ext.specs.declared.ext.ExtReason.TheVariants as reason

-- What `Bep` asks: keys in order (BEP 3), fields of their kinds (BEP 10, BEP 9), and a block of its length (BEP 9).
-- `Free` asks nothing.
abbrev pub Allows : Rules → Ext → Type 0
Allows rules.Free e = ⊤
Allows rules.Bep (ext.Handshake dict rest) = IsSorted (tree_of dict) × (has_bad_field (tree_of dict) ≡ false)
Allows rules.Bep (ext.Metadata dict rest) =
    IsSorted (tree_of dict) × (is_malformed (kind_of (tree_of dict)) ≡ false) × (is_block_ok (kind_of (tree_of dict)) (length rest) ≡ true)
Allows rules.Bep (ext.DontHave index) = ⊤
Allows rules.Bep (ext.Raw id payload) = ⊤

-- the first of two faults that is there
abbrev pub first_of : Option ViewError → Option ViewError → Option ViewError
first_of (Some e) other = Some e
first_of None other = other

abbrev pub fault_if : Bool → ViewError → Option ViewError
fault_if true e = Some e
fault_if false e = None

-- a key that isn't above the one before it, by its place
abbrev pub unsorted_fault : Option ℕ → Option ViewError
unsorted_fault None = None
unsorted_fault (Some at) = Some (error.Unsorted at)

-- of an extended handshake's dictionary
abbrev pub handshake_fault_of : Tree → Option ViewError
handshake_fault_of t = first_of (unsorted_fault (unsorted t)) (fault_if (has_bad_field t) error.BadField)

-- of a metadata message's dictionary with `n` bytes after it
abbrev pub metadata_fault_of : Tree → ℕ → Option ViewError
metadata_fault_of t n =
    first_of (unsorted_fault (unsorted t))
    (first_of (fault_if (is_malformed (kind_of t)) error.BadField)
    (fault_if (not (is_block_ok (kind_of t) n)) (error.BadBlock (length (ben t)))))

-- the first fault of a value under the rules, its place counted from the payload's start
abbrev pub fault_of : Rules → Ext → Option ViewError
fault_of rules.Free e = None
fault_of rules.Bep (ext.Handshake dict rest) = handshake_fault_of (tree_of dict)
fault_of rules.Bep (ext.Metadata dict rest) = metadata_fault_of (tree_of dict) (length rest)
fault_of rules.Bep (ext.DontHave index) = None
fault_of rules.Bep (ext.Raw id payload) = None

-- the extended id and the payload are those of the value, and the rules allow it
pub record Reads (reg : Registered) (r : Rules) (id : ℕ) (payload : List ℕ) (e : Ext) : Type 0 where
  pub is : IsExt reg e id payload
  pub allowed : Allows r e

-- they are those of a value with this fault
pub record HasFault (reg : Registered) (r : Rules) (id : ℕ) (payload : List ℕ) (fault : ViewError) : Type 0 where
  pub value : Ext
  pub is : IsExt reg value id payload
  pub faulty : fault_of r value ≡ Some fault

-- they are those of no value: the payload has to begin with a fitting dictionary, and goes on as none at this place
pub record HasNoDict (reg : Registered) (id : ℕ) (payload : List ℕ) (at : ℕ) : Type 0 where
  pub needed : IsTrue (needs_dict reg id)
  pub none : BeginsWithNone payload
  pub place : IsPlace payload at

-- they are those of no value: the payload has to be a piece index, and hasn't four bytes
pub record HasWrongLength (reg : Registered) (id : ℕ) (payload : List ℕ) : Type 0 where
  pub named : donthave_id reg ≡ Some id
  pub size : length payload ≢ 4

-- why a payload under an id is refused
abbrev pub Refuses : Registered → Rules → ℕ → List ℕ → ViewError → Type 0
Refuses reg r id payload error.BadExtLength = HasWrongLength reg id payload
Refuses reg r id payload (error.BadBencode at) = HasNoDict reg id payload at
Refuses reg r id payload (error.Unsorted at) = HasFault reg r id payload (error.Unsorted at)
Refuses reg r id payload error.BadField = HasFault reg r id payload error.BadField
Refuses reg r id payload (error.BadBlock at) = HasFault reg r id payload (error.BadBlock at)

-- the payload's fault, if it has one
abbrev pub IsFault : Registered → Rules → ℕ → List ℕ → Option ViewError → Type 0
IsFault reg r id payload None = (e : Ext) × Reads reg r id payload e
IsFault reg r id payload (Some fault) = Refuses reg r id payload fault

-- the same errors where memory may be wanting too
abbrev pub read_error_of : ViewError → ExtError
read_error_of error.BadExtLength = read_error.BadExtLength
read_error_of (error.BadBencode at) = read_error.BadBencode at
read_error_of (error.Unsorted at) = read_error.Unsorted at
read_error_of error.BadField = read_error.BadField
read_error_of (error.BadBlock at) = read_error.BadBlock at

-- why no value is read; memory is asked for only for one that is allowed
abbrev pub RefusesToRead : Registered → Rules → ℕ → List ℕ → ExtError → Type 0
RefusesToRead reg r id payload read_error.BadExtLength = Refuses reg r id payload error.BadExtLength
RefusesToRead reg r id payload (read_error.BadBencode at) = Refuses reg r id payload (error.BadBencode at)
RefusesToRead reg r id payload (read_error.Unsorted at) = Refuses reg r id payload (error.Unsorted at)
RefusesToRead reg r id payload read_error.BadField = Refuses reg r id payload error.BadField
RefusesToRead reg r id payload (read_error.BadBlock at) = Refuses reg r id payload (error.BadBlock at)
RefusesToRead reg r id payload read_error.Memory = (e : Ext) × Reads reg r id payload e

-- a fault without its place, of a value that has a spelling
abbrev pub reason_by : ViewError → Option ExtReason
reason_by error.BadExtLength = None
reason_by (error.BadBencode at) = None
reason_by (error.Unsorted at) = Some reason.Unsorted
reason_by error.BadField = Some reason.BadField
reason_by (error.BadBlock at) = Some reason.BadBlock

abbrev pub reason_of : Rules → Ext → Option ExtReason
reason_of r e = option_and_then reason_by (fault_of r e)
