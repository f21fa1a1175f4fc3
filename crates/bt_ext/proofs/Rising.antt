-- Names that rise are new.
use Rattle.std.proofs.Common.{◌≡◌, ℕ, List, [], ◌∷◌, true, false, Option, Some, None, refl, sym, ◌∙◌, ap}
use Rattle.std.specs.List.{list_any}
use Rattle.std.specs.Str.{bytes_eq}
use Rattle.std.specs.Ordering.{nat_cmp, is_lt, is_eq}
use Rattle.std.specs.declared.cmp.Ordering.{Ordering}
use Rattle.std.specs.declared.cmp.Ordering.TheVariants.{Less, Equal, Greater}
use Rattle.std.specs.Cmp.Lexicographic.{slice_cmp}
use Rattle.std.proofs.lemmas.Cmp.{nat_list_cmp_total}
use Rattle.std.proofs.lemmas.Map.Text.{is_eq-slice_cmp}
use Rattle.bt_bencode.specs.Keys.{is_above}
use Rattle.bt_ext.proofs.Entries.{flip}

-- no name above the last one is among these
abbrev pub AreBelow : List (List ℕ) → Option (List ℕ) → Type 0
AreBelow earlier last = (name : List ℕ) → is_above last name ≡ true → list_any (bytes_eq name) earlier ≡ false

less : (o : Ordering) → is_lt o ≡ true → o ≡ Less
less Less h = refl
less Equal h = absurd (cc)
less Greater h = absurd (cc)

-- a name above another is another one
apart : (low high : List ℕ) → slice_cmp nat_cmp low high ≡ Less → bytes_eq high low ≡ false
apart low high h = flip high low ∙ sym (is_eq-slice_cmp low high) ∙ ap is_eq h

-- a name above one that is above the last is above the last
higher : (last : Option (List ℕ)) (name other : List ℕ) → is_above last name ≡ true → slice_cmp nat_cmp name other ≡ Less → is_above last other ≡ true
higher None name other h k = refl
higher (Some last) name other h k =
    ap is_lt (nat_list_cmp_total.trans last name other (less (slice_cmp nat_cmp last name) h) k)

pub below_more : (earlier : List (List ℕ)) (last : Option (List ℕ)) (name : List ℕ) → AreBelow earlier last → is_above last name ≡ true
    → AreBelow (name ∷ earlier) (Some name)
below_more earlier last name below above other h =
    let k = less (slice_cmp nat_cmp name other) h in
    rw (apart name other k) (below other (higher last name other above k))

pub below_none : AreBelow [] None
below_none name h = refl
