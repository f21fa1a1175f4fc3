-- Items that were judged before.
use Rattle.std.specs.Prelude.{◌≡◌, ℕ, List, length}
use Rattle.bt_wire.specs.Judged as wire
use Rattle.bt_wire.specs.declared.item.Item.{Item}
use Rattle.bt_wire.specs.declared.item.Item.TheVariants as items
use Rattle.bt_feed.specs.declared.judged.Judged.{Judged}
use Rattle.bt_feed.specs.declared.stage.Stage.{Stage}
use Rattle.bt_feed.specs.Stages.{IsItem, stage_after}
use Rattle.bt_feed.specs.Feeds.{FeedState}

-- how many bytes the dictionary of an item has; 0 if it has none
abbrev pub dict_length : Item → ℕ
dict_length (items.Handshake h) = 0
dict_length (items.Message m) = wire.dict_length m

-- the held bytes are this item, and this is kept of it
pub record IsJudged (f : FeedState) (item : Item) (j : Judged) : Type 0 where
  pub is : IsItem f.stage f.held item
  pub next : j.next ≡ stage_after f.stage (length f.held) item
  pub dict : j.dict_len ≡ dict_length item

-- this is kept of the item that the held bytes are
abbrev pub WasJudged : FeedState → Judged → Type 0
WasJudged f j = (item : Item) × IsJudged f item j

-- ---- for private contracts

-- the bytes are an item whose dictionary has n bytes
abbrev pub WasItem : Stage → List ℕ → ℕ → Type 0
WasItem t b n = (item : Item) × IsItem t b item × (n ≡ dict_length item)

-- they are this one
abbrev pub IsItemOf : Stage → List ℕ → Item → Type 0
IsItemOf t b item = (other : Item) → IsItem t b other → item ≡ other
