-- What is shown of an item.
use Rattle.bt_wire.specs.declared.item.Item.{Item}
use Rattle.bt_wire.specs.declared.item.Item.TheVariants as items
use Rattle.bt_text.specs.declared.shown.ItemText.{ItemText}
use Rattle.bt_text.specs.declared.shown.ItemText.TheVariants as text

-- the item that is shown
abbrev pub item_in : ItemText → Item
item_in (text.Handshake h) = items.Handshake h.now
item_in (text.Message m) = items.Message m.now
