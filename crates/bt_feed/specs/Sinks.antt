-- What a sink says that keeps no item.
use Rattle.std.specs.Prelude.{ℕ}
use Rattle.bt_feed.specs.declared.discard.Discard.{Discard}

-- how many items it took, up to 2^64 - 1
abbrev pub discarded : Discard → ℕ
discarded d = d.items
