-- A source whose first bytes are kept: the source, the bytes, and how many more may be kept.
use Rattle.std.specs.Prelude.{ℕ, List}
use Rattle.bt_run.specs.declared.hint.kept.Kept.{Kept}

abbrev pub source_of : {R : Type 0} → Kept R → R
source_of k = k.source

abbrev pub kept_of : {R : Type 0} → Kept R → List ℕ
kept_of k = k.bytes.items

abbrev pub room_of : {R : Type 0} → Kept R → ℕ
room_of k = k.room
