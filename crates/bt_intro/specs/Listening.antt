-- What the items of a stream say of its sender.
use Rattle.std.specs.Prelude.{◌≡◌, ◌-◌, ◌^◌, ℕ, min, Bool, true, false, ◌||◌, List}
use Rattle.std.specs.Prelude.{[], ◌∷◌, length, take, Option, Some, None, option_and_then, unwrap_or, codes}
use Rattle.bt_bencode.specs.LookUps.{string_of}
use Rattle.bt_bencode.specs.Keys.{lookup_of}
use Rattle.bt_bencode.specs.Views.{tree_of}
use Rattle.bt_ext.specs.Ids.{metadata_name, donthave_name}
use Rattle.bt_ext.specs.declared.ext.Ext.{Ext}
use Rattle.bt_ext.specs.declared.ext.Ext.TheVariants as ext
use Rattle.bt_wire.specs.declared.handshake.Handshake.{Handshake}
use Rattle.bt_wire.specs.declared.item.Item.{Item}
use Rattle.bt_wire.specs.declared.item.Item.TheVariants as items
use Rattle.bt_wire.specs.Messages.{Message}
use Rattle.bt_wire.specs.declared.message.Message.TheVariants as message
use Rattle.bt_io.specs.Counts.{one_more}
use Rattle.bt_jobs.specs.Others.{or_else, first_of, id_of, first_id}
use Rattle.bt_intro.specs.declared.listener.Listener.{Listener}
use Rattle.bt_intro.specs.Names.{name_bytes, or_before}

-- the handshake, if the item is one
abbrev pub handshake_of : Item → Option Handshake
handshake_of (items.Handshake h) = Some h
handshake_of (items.Message m) = None

abbrev pub is_ext_handshake : Ext → Bool
is_ext_handshake (ext.Handshake dict rest) = true
is_ext_handshake (ext.Metadata dict rest) = false
is_ext_handshake (ext.DontHave index) = false
is_ext_handshake (ext.Raw id payload) = false

abbrev pub is_said_extended : Message → Bool
is_said_extended (message.Extended e) = is_ext_handshake e
is_said_extended m = false

-- the item is an extended handshake (BEP 10)
abbrev pub is_extended : Item → Bool
is_extended (items.Handshake h) = false
is_extended (items.Message m) = is_said_extended m

-- one of the items is
abbrev pub has_extended : List (ℕ × Item) → Bool
has_extended [] = false
has_extended (x ∷ xs) = is_extended x.1 || has_extended xs

abbrev pub client_in : Ext → List ℕ
client_in (ext.Handshake dict rest) = take 240 (unwrap_or (option_and_then string_of (lookup_of (codes "v") (tree_of dict))) [])
client_in (ext.Metadata dict rest) = []
client_in (ext.DontHave index) = []
client_in (ext.Raw id payload) = []

abbrev pub client_said : Message → List ℕ
client_said (message.Extended e) = client_in e
client_said m = []

-- the first 240 bytes of "client name and version" (BEP 10, `v`), of an extended handshake that has it
abbrev pub client_of : Item → List ℕ
client_of (items.Handshake h) = []
client_of (items.Message m) = client_said m

-- the last client name that isn't empty
abbrev pub last_client : List (ℕ × Item) → List ℕ
last_client [] = []
last_client (x ∷ xs) = or_before (client_of x.1) (last_client xs)

-- ---- for private contracts

-- what was heard of these items
pub record IsHeard (xs : List (ℕ × Item)) (l : Listener) : Type 0 where
  pub handshake : l.handshake ≡ first_of handshake_of xs
  pub metadata : l.metadata ≡ first_id metadata_name xs
  pub donthave : l.donthave ≡ first_id donthave_name xs
  pub extended : l.extended ≡ has_extended xs
  pub client : name_bytes l.client ≡ last_client xs
  pub items : l.items ≡ min (length xs) (2 ^ 64 - 1)

-- an item more
pub record Hears (old : Listener) (x : ℕ × Item) (new : Listener) : Type 0 where
  pub handshake : new.handshake ≡ or_else old.handshake (handshake_of x.1)
  pub metadata : new.metadata ≡ or_else old.metadata (id_of metadata_name x.1)
  pub donthave : new.donthave ≡ or_else old.donthave (id_of donthave_name x.1)
  pub extended : new.extended ≡ is_extended x.1 || old.extended
  pub client : name_bytes new.client ≡ or_before (name_bytes old.client) (client_of x.1)
  pub items : new.items ≡ one_more old.items
