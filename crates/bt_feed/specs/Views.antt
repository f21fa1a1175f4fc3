-- Items without where they lie in memory.
use Rattle.std.specs.Prelude.{◌≡◌, true, Option, Some, None, Result, Ok, Err}
use Rattle.bt_wire.specs.declared.context.Context.{Context}
use Rattle.bt_wire.specs.declared.item.Item.{Item}
use Rattle.bt_wire.specs.declared.item.Item.TheVariants as items
use Rattle.bt_wire.specs.declared.item.Refusal.{Refusal}
use Rattle.bt_wire.specs.Messages.{message_of, fields_of, keeps_bytes}
use Rattle.bt_feed.specs.declared.view.View.{View}
use Rattle.bt_feed.specs.declared.view.View.TheVariants as views
use Rattle.bt_feed.specs.declared.view.TakeError.{TakeError}
use Rattle.bt_feed.specs.declared.view.TakeError.TheVariants.{Refused}

abbrev pub item_of : View → Item
item_of (views.Handshake h) = items.Handshake h
item_of (views.Message v) = items.Message (message_of v)

-- the item keeps bytes, for which memory is taken
abbrev pub KeepsBytes : View → Type 0
KeepsBytes (views.Handshake h) = ⊥
KeepsBytes (views.Message v) = (c : Context) → keeps_bytes (fields_of c (message_of v)) ≡ true

-- an answer without where it lies in memory
abbrev pub shown : Result (Option View) TakeError → Result (Option Item) Refusal
shown (Ok None) = Ok None
shown (Ok (Some view)) = Ok (Some (item_of view))
shown (Err (Refused r)) = Err r
