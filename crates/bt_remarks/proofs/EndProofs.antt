-- The late requests of a table.
use Rattle.std.proofs.Common.{◌≡◌, ℕ, ◌≤◌, ◌<◌, suc, ◌⊎◌, inl, inr, Bool, true, false, cond, if◌then◌else◌, is_some, IfSome, leb, List, [], ◌∷◌, length}
use Rattle.std.proofs.Common.{Option, Some, None, refl, sym, ◌∙◌, ap, subst, ⊎_elim, arith}
use mathlib.Core.Path.{fun_ext}
use Rattle.std.specs.Ordering.{nat_cmp, ordering_then, eq_by_cmp}
use Rattle.std.specs.declared.cmp.Ordering.{Ordering}
use Rattle.std.specs.Cmp.{IsEquivalence}
use Rattle.std.proofs.lemmas.Cmp.{nat_cmp_total, then_total, on_total, eq_by_cmp_equiv}
use Rattle.std.specs.List.{IsDistinct, list_any, filter, fold, count_by, slice_get}
use Rattle.std.specs.List.Sorted.{IsStrictlySortedBy}
use Rattle.std.specs.Map.{lookup, keys_of, values_of}
use Rattle.std.proofs.lemmas.Map.Keys.{IsDistinct-from_sorted}
use Rattle.std.proofs.lemmas.Map.Made.{IsDistinct-keys_filter, is_some-lookup}
use Rattle.std.proofs.lemmas.Bool.{cases_lt}
use Rattle.std.proofs.lemmas.Bool.Decides.{nat_tests}
use Rattle.std.proofs.lemmas.List.Sums.{length-filter}
use Rattle.std.proofs.lemmas.Map.Entries.{length-keys_of, length-values_of, lookup-filter-values, lookup_from_place, option_filter}
use Rattle.bt_remarks.specs.declared.requests.Asked.{Asked}
use Rattle.bt_remarks.specs.declared.tallies.Request.{Request}
use Rattle.bt_remarks.specs.Requests.{Pending, Entry, is_late, sooner, request_of}
use Rattle.bt_remarks.specs.Ends.{late_one, late_of, is_same_block, IsFirst, AreFoundOf}
use Rattle.bt_remarks.proofs.RequestProofs.{key_test}

abbrev key_cmp : ℕ × ℕ → ℕ × ℕ → Ordering
key_cmp x y = ordering_then (nat_cmp x.0 y.0) (nat_cmp x.1 y.1)

key_laws : IsEquivalence (eq_by_cmp key_cmp)
key_laws = eq_by_cmp_equiv (then_total (on_total (λ (k : ℕ × ℕ). k.0) nat_cmp_total) (on_total (λ (k : ℕ × ℕ). k.1) nat_cmp_total))

same_key : eq_by_cmp key_cmp ≡ is_same_block
same_key = fun_ext (λ x. fun_ext (λ y. key_test (record { index = x.0; begin = x.1; length = 0 }) y.0 y.1))

-- ---- the oldest of some requests
least : Entry → List Entry → Entry
least f [] = f
least f (e ∷ es) = least (if leb f.1.number e.1.number then f else e) es

some_if : (b : Bool) (x y : Entry) → (if b then Some x else Some y) ≡ Some (if b then x else y)
some_if true x y = refl
some_if false x y = refl

fold_is : (f : Entry) (es : List Entry) → fold sooner (Some f) es ≡ Some (least f es)
unfolding least
fold_is f [] = refl
fold_is f (e ∷ es) = ap (λ o. fold sooner o es) (some_if (leb f.1.number e.1.number) f e) ∙ fold_is (if leb f.1.number e.1.number then f else e) es

abbrev AllFrom : ℕ → List Entry → Type 0
AllFrom n [] = Unit {0}
AllFrom n (e ∷ es) = (n ≤ e.1.number) × AllFrom n es

pick_le : (f g : Entry)
    → ((if leb f.1.number g.1.number then f else g).1.number ≤ f.1.number) × ((if leb f.1.number g.1.number then f else g).1.number ≤ g.1.number)
pick_le f g =
    ⊎_elim (λ (h : g.1.number < f.1.number). (grind (arith, nat_tests, h), grind (arith, nat_tests, h))) (λ (h : f.1.number ≤ g.1.number). (
      grind
          (arith, nat_tests, h),
      grind (arith, nat_tests, h),
    ))
    (cases_lt g.1.number f.1.number)

pick_is : (b : Bool) (f g : Entry) → ((if b then f else g) ≡ f) ⊎ ((if b then f else g) ≡ g)
pick_is true f g = inl refl
pick_is false f g = inr refl

least_le : (f : Entry) (es : List Entry) → (least f es).1.number ≤ f.1.number
unfolding least
least_le f [] = omega arith
least_le f (e ∷ es) = let h = least_le (if leb f.1.number e.1.number then f else e) es in let g = pick_le f e in omega arith

least_all : (f : Entry) (es : List Entry) → AllFrom (least f es).1.number es
unfolding least
least_all f [] = tt
least_all f (e ∷ es) =
    let h = least_le (if leb f.1.number e.1.number then f else e) es in let g = pick_le f e in (
      omega arith,
      least_all
          (if leb f.1.number e.1.number then f else e) es,
    )

-- where the oldest one stands
abbrev Stands : List Entry → Entry → Type 0
Stands es e = (i : ℕ) × (slice_get es i ≡ Some e)

least_in : (f : Entry) (es : List Entry) → (least f es ≡ f) ⊎ Stands es (least f es)
unfolding least
least_in f [] = inl refl
least_in f (e ∷ es) =
    let pick = if leb f.1.number e.1.number then f else e in
    ⊎_elim
    (λ (same : least pick es ≡ pick).
    ⊎_elim (λ (first : pick ≡ f). inl (same ∙ first)) (λ (this : pick ≡ e). inr (0, ap Some (sym (same ∙ this)))) (pick_is
    (leb f.1.number e.1.number) f e))
    (λ (later : Stands es (least pick es)). inr (suc later.0, later.1))
    (least_in pick es)

stands_first : (e : Entry) (es : List Entry) → Stands (e ∷ es) (least e es)
stands_first e es =
    ⊎_elim (λ (same : least e es ≡ e). (0, ap Some (sym same))) (λ (later : Stands es (least e es)).
    (suc later.0, later.1)) (least_in e es)

looked_up : (n : ℕ) (test : ℕ × ℕ → Bool) (es : List Entry) → AllFrom n es → IfSome (lookup test es) (λ r. n ≤ r.number)
looked_up n test [] h = tt
looked_up n test (e ∷ es) h = elim (test e.0) as (λ b. IfSome (cond b (Some e.1) (lookup test es))
    (λ r. n ≤ r.number)) [ true ↦ h.0 | false ↦ looked_up n test es h.1 ]

-- ---- how many
filter_values : (p : Asked → Bool) (es : List Entry) → filter p (values_of es) ≡ values_of (filter (λ e. p e.1) es)
filter_values p [] = refl
filter_values p (e ∷ es) =
    ap (λ vs. cond (p e.1) (e.1 ∷ vs) vs) (filter_values p es)
    ∙ elim (p e.1) as (λ b. cond b (e.1 ∷ values_of (filter (λ e. p e.1) es)) (values_of (filter (λ e. p e.1) es)) ≡ values_of (cond b (e ∷ filter
    (λ e. p e.1) es) (filter (λ e. p e.1) es))) [ true ↦ refl | false ↦ refl ]

pub counted : (p : Asked → Bool) (es : List Entry) → count_by p (values_of es) ≡ length (keys_of (filter (λ e. p e.1) es))
counted p es =
    sym (length-filter p (values_of es)) ∙ ap length (filter_values p es) ∙ length-values_of (filter (λ e. p e.1) es)
    ∙ sym (length-keys_of (filter (λ e. p e.1) es))

-- ---- the late ones of a table
late_is : (closed : Bool) (later : ℕ) (request : Option Asked) → option_filter (is_late closed later) request ≡ late_one closed later request
late_is closed later None = refl
late_is closed later (Some request) = refl

-- a look-up among the late entries
looks_late : (closed : Bool) (later i b : ℕ) (es : List Entry) → IsStrictlySortedBy key_cmp (keys_of es)
    → lookup (eq_by_cmp key_cmp (i, b)) (filter (λ e. is_late closed later e.1) es) ≡ late_one closed later (lookup (eq_by_cmp key_cmp (i, b)) es)
looks_late closed later i b es sorted =
    lookup-filter-values key_laws (is_late closed later) (i, b) es (IsDistinct-from_sorted key_cmp (keys_of es) sorted)
    ∙ late_is closed later (lookup (eq_by_cmp key_cmp (i, b)) es)

abbrev pub requested : Option Entry → Option Request
requested None = None
requested (Some entry) = Some (request_of entry)

-- the first of the late entries, as the fold gives it
first_is : (requests : Pending) (es : List Entry) (first : Option Entry) → IsDistinct (eq_by_cmp key_cmp) (keys_of es)
    → ((i b : ℕ) → lookup (eq_by_cmp key_cmp (i, b)) es ≡ requests i b) → first ≡ fold sooner None es → IsFirst requests (requested first)
first_is requests [] first distinct looks is_fold =
    subst (λ o. IsFirst requests (requested o)) (sym is_fold) (λ i b. sym (looks i b))
first_is requests (e ∷ es) first distinct looks is_fold =
    let r : Entry = least e es in
    let there : Stands (e ∷ es) r = stands_first e es in
    subst (λ o. IsFirst requests (requested o)) (sym (is_fold ∙ fold_is e es)) (record {
      request = r.1;
      there = sym (looks r.0.0 r.0.1) ∙ lookup_from_place key_laws (e ∷ es) there.0 r.0 r.1 distinct there.1;
      length = refl;
      mark = refl;
      oldest = λ i b. subst (λ o. IfSome o (λ q. r.1.number ≤ q.number)) (looks i b) (looked_up r.1.number (eq_by_cmp key_cmp (i, b)) (e ∷ es)
          (least_le e es, least_all e es));
    })

-- what a table says of its late requests
pub found_late : (closed : Bool) (later : ℕ) (es : List Entry) (first : Option Entry) → IsStrictlySortedBy key_cmp (keys_of es)
    → first ≡ fold sooner None (filter (λ e. is_late closed later e.1) es)
    → AreFoundOf (late_of false closed later (λ i b. lookup (eq_by_cmp key_cmp (i, b)) es)) (record {
      count = count_by (is_late closed later)
          (values_of es);
      first = requested first;
    })
found_late closed later es first sorted is_fold =
    let kept = filter (λ (e : Entry). is_late closed later e.1) es in
    let apart = IsDistinct-keys_filter (eq_by_cmp key_cmp) (λ (e : Entry). is_late closed later e.1) es (IsDistinct-from_sorted key_cmp (keys_of es) sorted) in
    record {
      blocks = keys_of kept;
      distinct = subst (λ t. IsDistinct t (keys_of kept)) same_key apart;
      each = λ i b.
          ap (λ t. list_any (t (i, b)) (keys_of kept)) (sym same_key) ∙ sym (is_some-lookup (eq_by_cmp key_cmp (i, b)) kept)
          ∙ ap is_some (looks_late closed later i b es sorted);
      count = counted (is_late closed later) es;
      first = first_is _ kept first apart (λ i b. looks_late closed later i b es sorted) is_fold;
    }

nothing_apart : IsDistinct is_same_block []
unfolding IsDistinct
nothing_apart = tt

pub none_found : (unknown closed : Bool) (later : ℕ) (pending : Pending) → unknown ≡ true
    → AreFoundOf (late_of unknown closed later pending) (record { count = 0; first = None })
none_found unknown closed later pending is_unknown =
    subst (λ u. AreFoundOf (late_of u closed later pending) (record { count = 0; first = None })) (sym is_unknown)
    (record { blocks = []; distinct = nothing_apart; each = λ _ _. refl; count = refl; first = λ _ _. refl })

pub late_found : (unknown closed : Bool) (later at count : ℕ) (es : List Entry) (first : Option Entry) → unknown ≡ false → at ≡ later
    → IsStrictlySortedBy key_cmp (keys_of es)
    → count ≡ count_by (is_late closed at) (values_of es) → first ≡ fold sooner None (filter (λ e. is_late closed at e.1) es)
    → AreFoundOf (late_of unknown closed later (λ i b. lookup (eq_by_cmp key_cmp (i, b)) es)) (record { count = count; first = requested first })
late_found unknown closed later at count es first is_known is_at sorted is_count is_first =
    let looks : Pending = λ i b. lookup (eq_by_cmp key_cmp (i, b)) es in
    subst (λ u. AreFoundOf (late_of u closed later looks) (record { count = count; first = requested first })) (sym is_known)
    (subst (λ n. AreFoundOf (late_of false closed n looks) (record { count = count; first = requested first })) is_at
    (subst (λ n. AreFoundOf (late_of false closed at looks) (record { count = n; first = requested first })) (sym is_count)
    (found_late closed at es first sorted is_first)))
