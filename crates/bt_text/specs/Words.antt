-- Messages whose words hold no number of more than 64 bits.
use Rattle.std.specs.Prelude.{◌<◌, ◌^◌, ⊤, length}
use Rattle.bt_bencode.specs.Bencoding.{ben}
use Rattle.bt_bencode.specs.Views.{tree_of}
use Rattle.bt_ext.specs.declared.ext.Ext.{Ext}
use Rattle.bt_ext.specs.declared.ext.Ext.TheVariants as ext
use Rattle.bt_wire.specs.declared.item.Item.{Item}
use Rattle.bt_wire.specs.declared.item.Item.TheVariants as items
use Rattle.bt_wire.specs.declared.message.Message.{Message as MessageOver}
use Rattle.bt_wire.specs.declared.message.Message.TheVariants.{Extended}

-- the length of the dictionary's encoding has 64 bits
abbrev pub HasLength : Ext → Type 0
HasLength (ext.Handshake dict rest) = length (ben (tree_of dict)) < 2 ^ 64
HasLength (ext.Metadata dict rest) = length (ben (tree_of dict)) < 2 ^ 64
HasLength (ext.DontHave index) = ⊤
HasLength (ext.Raw id payload) = ⊤

-- what is asked of an extended payload holds of the message's, if it has one
abbrev pub IsCounted : {B E : Type 0} → (E → Type 0) → MessageOver B E → Type 0
IsCounted p (Extended e) = p e
IsCounted p m = ⊤

-- what is asked of a message holds of the one that an item may be
abbrev pub HasLengths : Item → Type 0
HasLengths (items.Handshake h) = ⊤
HasLengths (items.Message m) = IsCounted HasLength m
