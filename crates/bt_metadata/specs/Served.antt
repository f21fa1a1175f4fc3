-- For the invariant alone: what is so of the fields of a server.
use Rattle.std.specs.Prelude.{ℕ, ◌<◌, ◌≤◌, List, length}
use Rattle.bt_metadata.specs.Blocks.{max_metadata}
use Rattle.bt_metadata.specs.declared.server.Server.TheInside.{Inside}
use Rattle.bt_metadata.specs.declared.server.Store.{Store}
use Rattle.bt_metadata.specs.declared.server.Store.TheVariants.{Own, Shared}

-- the metadata, wherever it is kept
abbrev pub stored : {A : Type 0} → Store A → List ℕ
stored (Own metadata) = metadata.items
stored (Shared metadata) = metadata.value.items

pub record IsServed {A : Type 0} (s : Inside A) : Type 0 where
  pub least : 0 < length (stored s.store)
  pub most : length (stored s.store) ≤ max_metadata
