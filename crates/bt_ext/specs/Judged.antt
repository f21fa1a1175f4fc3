-- Payloads that were judged before.
use Rattle.std.specs.Prelude.{◌≡◌, ℕ, List, length}
use Rattle.bt_bencode.specs.Bencoding.{ben}
use Rattle.bt_bencode.specs.Views.{tree_of}
use Rattle.bt_ext.specs.Payloads.{IsExt}
use Rattle.bt_ext.specs.declared.ids.Registered.{Registered}
use Rattle.bt_ext.specs.declared.ext.Ext.{Ext}
use Rattle.bt_ext.specs.declared.ext.Ext.TheVariants as ext

-- how many bytes the dictionary of a value has; 0 if it has none
abbrev pub dict_length : Ext → ℕ
dict_length (ext.Handshake dict rest) = length (ben (tree_of dict))
dict_length (ext.Metadata dict rest) = length (ben (tree_of dict))
dict_length (ext.DontHave index) = 0
dict_length (ext.Raw id payload) = 0

-- the id and the payload are those of a value, whose dictionary has n bytes
abbrev pub WasJudged : Registered → ℕ → List ℕ → ℕ → Type 0
WasJudged reg id payload n = (e : Ext) × IsExt reg e id payload × (n ≡ dict_length e)

-- v is the value of which they are
abbrev pub IsValueOf : Registered → ℕ → List ℕ → Ext → Type 0
IsValueOf reg id payload v = (e : Ext) → IsExt reg e id payload → v ≡ e
