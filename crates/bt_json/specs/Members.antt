-- The text of an object's line, from the first field's value on.
use Rattle.std.specs.Prelude.{List, ℕ, [], ◌∷◌, ◌++◌, true, codes, length, Option, Some, None, ⊤}
use Rattle.json.specs.Token.{Token, end_object}
use Rattle.json.specs.Print.{escape, print_from, quoted}
use Rattle.bt_bencode.specs.Views.{tree_of}
use Rattle.bt_ext.specs.declared.ext.Ext.{Ext}
use Rattle.bt_ext.specs.declared.ext.Ext.TheVariants as ext
use Rattle.bt_wire.specs.Messages.{Message}
use Rattle.bt_wire.specs.declared.message.Message.TheVariants.{Extended}
use Rattle.bt_json.specs.Objects.{client_in}

-- fields after the first, each with its comma, the object's end and a line feed
abbrev pub rest_of_line : List Token → List ℕ
rest_of_line fields = print_from true (fields ++ end_object ∷ []) ++ codes "\n"

-- a comma, a name and a colon
abbrev pub named : List ℕ → List ℕ
named name = 44 ∷ (quoted name ++ 58 ∷ [])

-- the field with the kind of an item, and the name of the next field
abbrev pub kind_and_name : List ℕ → List ℕ → List ℕ
kind_and_name kind name = named (codes "item") ++ (quoted kind ++ named name)

-- how many bytes a text takes between its quotes
abbrev pub text_room : Option (List ℕ) → ℕ
text_room None = 0
text_room (Some s) = length (escape s)

-- the client's name that a payload announces, if it is an extended handshake (BEP 10)
abbrev pub client_announced : Ext → Option (List ℕ)
client_announced (ext.Handshake dict rest) = client_in (tree_of dict)
client_announced (ext.Metadata dict rest) = None
client_announced (ext.DontHave i) = None
client_announced (ext.Raw id bytes) = None

-- the text of any length in a message's line
abbrev pub client_of : Message → Option (List ℕ)
client_of (Extended e) = client_announced e
client_of m = None

-- it is no extended handshake, so its line has no text of any length
abbrev pub HasNoText : Ext → Type 0
HasNoText (ext.Handshake dict rest) = ⊥
HasNoText e = ⊤

abbrev pub IsShort : Message → Type 0
IsShort (Extended e) = HasNoText e
IsShort m = ⊤
