-- Why a payload begins with no dictionary whose keys are in order.
use Rattle.std.specs.Prelude.{◌≡◌, ℕ, List, Some}
use Rattle.bt_bencode.specs.Trees.{Pairs, dictionary}
use Rattle.bt_bencode.specs.Bencoding.{BeginsWith}
use Rattle.bt_bencode.specs.Keys.{unsorted}
use Rattle.bt_bencode.specs.Payloads.{Refuses}
use Rattle.bt_bencode.specs.declared.noted.Disorder.{Disorder}
use Rattle.bt_bencode.specs.declared.noted.Disorder.TheVariants as disorder

-- it begins with no dictionary, and why; or with one whose first key out of order is there
abbrev pub RefusesSorted : List ℕ → Disorder → Type 0
RefusesSorted payload (disorder.Bytes bad) = Refuses payload bad
RefusesSorted payload (disorder.Order at) =
    ((ps : Pairs) × (n : ℕ) × BeginsWith payload ps n) × ((ps : Pairs) (n : ℕ) → BeginsWith payload ps n → unsorted (dictionary ps) ≡ Some at)
