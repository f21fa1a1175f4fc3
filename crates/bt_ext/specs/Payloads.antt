-- Extended payloads (BEP 10, BEP 9): the extended id and the bytes of a value.
use Rattle.std.specs.Prelude.{◌≡◌, ℕ, ◌<◌, ◌^◌, List, ◌++◌, Option, Some, None, IsSome, if◌then◌else◌, ⊤}
use Rattle.std.specs.Int.{w32, to_be_bytes}
use Rattle.bt_bencode.specs.Trees.{dictionary, Pairs}
use Rattle.bt_bencode.specs.Bencoding.{ben, Fits}
use Rattle.bt_bencode.specs.Views.{tree_of}
use Rattle.bt_bencode.specs.declared.tree.Value.{Value}
use Rattle.bt_bencode.specs.declared.tree.Value.TheVariants as value
use Rattle.bt_ext.specs.Ids.{metadata_id, donthave_id, is_known}
use Rattle.bt_ext.specs.declared.ids.Registered.{Registered}
use Rattle.bt_ext.specs.declared.ext.Ext.{Ext}
use Rattle.bt_ext.specs.declared.ext.Ext.TheVariants as ext
use Rattle.bt_ext.specs.declared.ext.ExtView.{ExtView}
use Rattle.bt_ext.specs.declared.ext.ExtView.TheVariants as view

-- the value that a view is
abbrev pub seen : ExtView → Ext
seen (view.Handshake dict rest) = ext.Handshake (value.Dict dict.tree.0) rest.now
seen (view.Metadata dict rest) = ext.Metadata (value.Dict dict.tree.0) rest.now
seen (view.DontHave index) = ext.DontHave index
seen (view.Raw id payload) = ext.Raw id payload.now

-- The extended id of a value for a receiver with these ids: 0 for an extended handshake, that of `ut_metadata` for a
-- metadata message, that of `lt_donthave` for a piece that is taken back, and a raw value's own, unless that has a meaning.
abbrev pub ext_id : Registered → Ext → Option ℕ
ext_id reg (ext.Handshake dict rest) = Some 0
ext_id reg (ext.Metadata dict rest) = metadata_id reg
ext_id reg (ext.DontHave index) = donthave_id reg
ext_id reg (ext.Raw id payload) = if is_known reg id then None else Some id

-- the four bytes of a piece index, the highest first
abbrev pub index_bytes : ℕ → List ℕ
index_bytes index = to_be_bytes w32 index

-- the piece index that a value is, if it is one
abbrev pub index_of : Ext → Option ℕ
index_of (ext.Handshake dict rest) = None
index_of (ext.Metadata dict rest) = None
index_of (ext.DontHave index) = Some index
index_of (ext.Raw id payload) = None

-- the bytes after the extended id: a dictionary and what follows it, a piece index, or the raw bytes
abbrev pub payload_of : Ext → List ℕ
payload_of (ext.Handshake dict rest) = ben (tree_of dict) ++ rest
payload_of (ext.Metadata dict rest) = ben (tree_of dict) ++ rest
payload_of (ext.DontHave index) = index_bytes index
payload_of (ext.Raw id payload) = payload

-- a dictionary that fits
abbrev pub IsDict : Value → Type 0
IsDict v = (ps : Pairs) × (v ≡ value.Dict ps) × Fits (dictionary ps)

-- its dictionary, if its kind has one, is one that fits, and its piece index has 32 bits
abbrev pub HasParts : Ext → Type 0
HasParts (ext.Handshake dict rest) = IsDict dict
HasParts (ext.Metadata dict rest) = IsDict dict
HasParts (ext.DontHave index) = index < 2 ^ 32
HasParts (ext.Raw id payload) = ⊤

-- the extended id and the payload are those of the value
pub record IsExt (reg : Registered) (e : Ext) (id : ℕ) (payload : List ℕ) : Type 0 where
  pub named : ext_id reg e ≡ Some id
  pub fits : HasParts e
  pub spelled : payload ≡ payload_of e

-- the value has an extended id and a payload of its own
abbrev pub HasSpelling : Registered → Ext → Type 0
HasSpelling reg e = IsSome (ext_id reg e) × HasParts e

-- it has none
abbrev pub HasNoSpelling : Registered → Ext → Type 0
HasNoSpelling reg e = HasSpelling reg e → ⊥
