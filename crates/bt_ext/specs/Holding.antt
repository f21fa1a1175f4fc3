-- How the code holds names and entries while it reads a dictionary, for the contracts of functions that are not public.
use Rattle.std.specs.Prelude.{◌≡◌, ℕ, ◌<◌, List, length, map, take, slice_index_or, true, false, Option, Some, None}
use Rattle.std.specs.Prelude.{◌||◌}
use Rattle.std.specs.Borrow.{Bor}
use Rattle.std.specs.BTreeSet.{BTreeSet}
use Rattle.std.specs.List.{list_any}
use Rattle.std.specs.Str.{bytes_eq}
use Rattle.bt_ext.specs.Tables.{Entries, id_of_name}

-- the names in a set, by their bytes
abbrev pub names_of : BTreeSet (Bor (List ℕ)) → List (List ℕ)
names_of s = map (λ k. k.now) s.keys

-- one more name is there
abbrev pub AddsName : List ℕ → List (List ℕ) → List (List ℕ) → Type 0
AddsName name old new = (other : List ℕ) → list_any (bytes_eq other) new ≡ (bytes_eq other name || list_any (bytes_eq other) old)

-- pairs of a name and an id, by the names' bytes
abbrev pub entries_of : List (Bor (List ℕ) × ℕ) → Entries
entries_of xs = map (λ x. (x.0.now, x.1)) xs

-- the place of the first entry with the name, if there is one
abbrev pub HoldsAt : List ℕ → Entries → Option ℕ → Type 0
HoldsAt name es None = id_of_name name es ≡ None
HoldsAt name es (Some i) =
    (i < length es) × ((e : List ℕ × ℕ) → e ≡ slice_index_or es i e → bytes_eq e.0 name ≡ true) × (id_of_name name (take i es) ≡ None)

-- a name that isn't among these is none of the entries'
abbrev pub HasNames : List (List ℕ) → Entries → Type 0
HasNames names es = (name : List ℕ) → list_any (bytes_eq name) names ≡ false → id_of_name name es ≡ None
