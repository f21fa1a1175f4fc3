-- Names in a set.
use Rattle.std.proofs.Common.{◌≡◌, ℕ, List, [], ◌∷◌, map, Bool, true, false, ◌||◌, Bor, refl}
use Rattle.std.specs.Ordering.{nat_cmp, match_ordering}
use Rattle.std.specs.declared.cmp.Ordering.{Ordering}
use Rattle.std.specs.declared.cmp.Ordering.TheVariants.{Less, Equal, Greater}
use Rattle.std.specs.Cmp.Lexicographic.{slice_cmp}
use Rattle.std.specs.List.{list_any}
use Rattle.std.specs.Str.{bytes_eq}
use Rattle.std.specs.BTreeMap.{is_at}
use Rattle.std.specs.BTreeSet.{insert_key}
use Rattle.std.proofs.lemmas.Map.Text.{is_eq-slice_cmp}
use Rattle.std.proofs.lemmas.Map.Lookups.{exact_bytes}
use Rattle.bt_ext.specs.Holding.{AddsName}

abbrev cmp : Bor (List ℕ) → Bor (List ℕ) → Ordering
cmp x y = slice_cmp nat_cmp x.now y.now

abbrev now : List (Bor (List ℕ)) → List (List ℕ)
now ks = map (λ (k : Bor (List ℕ)). k.now) ks

pub known : (k : Bor (List ℕ)) (ks : List (Bor (List ℕ))) → list_any (is_at (cmp k)) ks ≡ list_any (bytes_eq k.now) (now ks)
known k [] = refl
known k (x ∷ ks) = rw (is_eq-slice_cmp k.now x.now, known k ks) refl

again : (b c : Bool) → (b || c) ≡ (b || (b || c))
again true c = refl
again false c = refl

swapped : (a b c : Bool) → (a || (b || c)) ≡ (b || (a || c))
swapped true true c = refl
swapped true false c = refl
swapped false b c = refl

step : (o : Ordering) (k x : Bor (List ℕ)) (ks : List (Bor (List ℕ))) (other : List ℕ) → cmp k x ≡ o
    → list_any (bytes_eq other) (now (insert_key cmp ks k)) ≡ (bytes_eq other k.now || list_any (bytes_eq other) (now ks))
    → list_any (bytes_eq other) (now (match_ordering o (k ∷ x ∷ ks) (x ∷ ks) (x ∷ insert_key cmp ks k)))
    ≡ (bytes_eq other k.now || (bytes_eq other x.now || list_any (bytes_eq other) (now ks)))
step Less k x ks other is more = refl
step Equal k x ks other is more =
    let same : k.now ≡ x.now = exact_bytes k.now x.now is in
    rw same (again (bytes_eq other x.now) (list_any (bytes_eq other) (now ks)))
step Greater k x ks other is more = rw more (swapped (bytes_eq other x.now) (bytes_eq other k.now) (list_any (bytes_eq other) (now ks)))

-- a set with one more key
pub added : (k : Bor (List ℕ)) (ks : List (Bor (List ℕ))) → AddsName k.now (now ks) (now (insert_key cmp ks k))
added k [] other = refl
added k (x ∷ ks) other = step (cmp k x) k x ks other refl (added k ks other)
