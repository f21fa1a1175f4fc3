-- Bytes in pages of 64 places.
use Rattle.std.specs.Prelude.{ℕ, ◌/◌, ◌%◌, List, Option, Some, None, slice_index_or}
use Rattle.std.specs.Global.{Vec}
use Rattle.std.specs.BTreeMap.{get}
use Rattle.std.specs.Ordering.{nat_cmp}
use Rattle.bt_flow.specs.declared.pages.Pages.{Pages}

-- the byte at an index
abbrev pub cell : List (Option ℕ) → ℕ → Option ℕ
cell page j = slice_index_or page j None

abbrev pub in_page : Option (Vec (Option ℕ)) → ℕ → Option ℕ
in_page None j = None
in_page (Some page) j = cell page.items j

-- the byte at a place
abbrev pub byte_of : Pages → ℕ → Option ℕ
byte_of p i = in_page (get nat_cmp p.pages (i / 64)) (i % 64)
