-- A set with the names of a table, and perhaps more.
use Rattle.std.proofs.Common.{◌≡◌, ℕ, ◌+◌, ◌<◌, ◌||◌, List, length, take, get_or, Bool, true, false, refl, sym, ◌∙◌, add-one}
use Rattle.std.specs.List.{list_any}
use Rattle.std.specs.Str.{bytes_eq}
use Rattle.bt_ext.specs.Tables.{Entries, entered}
use Rattle.bt_ext.specs.Holding.{HasNames, AddsName}
use Rattle.bt_ext.proofs.ByName.{by_other}
use Rattle.bt_ext.proofs.Entries.{flip, none_more, stays_absent}

neither : (a b : Bool) → (a || b) ≡ false → (a ≡ false) × (b ≡ false)
neither true b h = absurd (cc)
neither false b h = (refl, h)

-- what isn't there after one more name is another, and wasn't there before
unknown : (name other : List ℕ) (old new : List (List ℕ)) → AddsName name old new → list_any (bytes_eq other) new ≡ false
    → (bytes_eq name other ≡ false) × (list_any (bytes_eq other) old ≡ false)
unknown name other old new adds u =
    let n = neither (bytes_eq other name) (list_any (bytes_eq other) old) (sym (adds other) ∙ u) in
    (flip name other ∙ n.0, n.1)

-- the names after one more entry
pub names-more : (old new : List (List ℕ)) (es : Entries) (i : ℕ) (e : List ℕ × ℕ) → i < length es → e ≡ get_or es i e → AddsName e.0 old new
    → HasNames old (take i es) → HasNames new (take (i + 1) es)
names-more old new es i e lt is adds h other u =
    let n = unknown e.0 other old new adds u in
    rw add-one (none_more other es i e lt is n.0 (h other n.1))

-- the names after an id was taken for one
pub names-entered : (old new : List (List ℕ)) (name : List ℕ) (id : ℕ) (es : Entries) → AddsName name old new → HasNames old es
    → HasNames new (entered name id es)
names-entered old new name id es adds h other u =
    let n = unknown name other old new adds u in
    by_other name other id es n.0 ∙ h other n.1

-- a name that isn't there and isn't to be added changes nothing
pub kept : (names : List (List ℕ)) (name : List ℕ) (id : ℕ) (es : Entries) → HasNames names es → list_any (bytes_eq name) names ≡ false
    → (0 < id → length es < 256 → ⊥) → es ≡ entered name id es
kept names name id es h u full = stays_absent name id es (h name u) full
