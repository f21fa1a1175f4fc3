-- Entries of which no two have the same key.
use Rattle.std.proofs.Common.{rules, ◌≡◌, ◌∙◌, ℕ, ◌-◌, ◌+◌, ◌^◌, ◌<◌, ◌≤◌, Bool, true, false, List, [], ◌∷◌, ◌++◌}
use Rattle.std.proofs.Common.{length, take, Option, Some, None, refl, sym, ap, subst, cond, arith, inl, inr, zero, suc}
use Rattle.std.specs.Prelude.{slice_get}
use Rattle.std.specs.List.{IsDistinct, AllByRecursion}
use Rattle.std.proofs.lemmas.Option.{slice_get-get_or}
use Rattle.std.specs.Map.{lookup, lookup_entry, remove_entry, keys_of}
use Rattle.std.specs.Option.{option_map_or}
use Rattle.std.proofs.lemmas.Bool.{cases_Bool}
use Rattle.std.proofs.lemmas.Map.Keys.{IsDistinct-head, IsDistinct-tail, IsDistinct-cons}
use Rattle.lru.specs.LruCache.{LruCache, last_entry, put_entries}
use Rattle.bt_capture.specs.declared.pair.Pair.{Pair}
use Rattle.bt_capture.specs.Tables.{same_pair, IsApart}
use Rattle.bt_capture.specs.contracts.pair.PairEq.TheImpl.Laws as pair_laws
use Rattle.std.specs.Cmp.{IsEquivalence}
use Rattle.std.specs.List.Sorted.{IsPermutation}
use Rattle.std.proofs.lemmas.List.Sorted.{Contains-permutation, IsPermutation-map, IsPermutation-sym}
use Rattle.std.proofs.lemmas.Map.Keys.{IsDistinct-IsPermutation}
use Rattle.std.proofs.lemmas.Map.Views.{Contains-from_lookup, lookup-from_Contains}

pub same_is : (x y : Pair) → same_pair x y ≡ true → x ≡ y
same_is x y e = search rules

laws : IsEquivalence same_pair
laws = pair_laws.laws-law

pub same_self : (x : Pair) → same_pair x x ≡ true
same_self x = laws.refl x

other_key : (p k x : Pair) → same_pair p x ≡ true → same_pair k p ≡ false → same_pair k x ≡ false
other_key p k x same other = subst (λ y. same_pair k y ≡ false) (same_is p x same) other

pub apart_none : IsDistinct same_pair []
unfolding IsDistinct
apart_none = tt

module _ {X : Type 0} where
  no_entry : (test : Pair → Bool) (es : List (Pair × X)) → lookup test es ≡ None → lookup_entry test es ≡ None
  no_entry test [] h = refl
  no_entry test (e ∷ es) h = elim (cases_Bool (test e.0)) [
    | inl t ↦ let h' : Some e.1 ≡ None = rw t at h in cc
    | inr f ↦ rw f (no_entry test es (rw f at h))
  ]

  take_all : (n : ℕ) (es : List (Pair × X)) → length es ≤ n → take n es ≡ es
  take_all zero [] h = refl
  take_all zero (e ∷ es) h = absurd (omega (arith, h))
  take_all (suc n) [] h = refl
  take_all (suc n) (e ∷ es) h = ap (λ l. e ∷ l) (take_all n es (omega (arith, h)))

  pub pushed : (c : LruCache Pair X) (k : Pair) (x : X) → c.cap ≡ 2 ^ 64 - 1 → lookup (same_pair k) c.entries ≡ None → length c.entries < 2 ^ 63
      → put_entries same_pair c k x ≡ (k, x) ∷ c.entries
  pushed c k x cap none few =
      ap (λ o. option_map_or (λ e. (e.0, x) ∷ remove_entry (same_pair k) c.entries) o ((k, x) ∷ take (c.cap - 1) c.entries))
      (no_entry (same_pair k) c.entries none)
      ∙ ap (λ l. (k, x) ∷ l) (take_all (c.cap - 1) c.entries (omega (arith, cap, few)))

  split_last : (es : List (Pair × X)) (n : ℕ) (e : Pair × X) → Some e ≡ slice_get es n → length es ≡ n + 1 → es ≡ take n es ++ e ∷ []
  split_last [] n e h l = cc
  split_last (x ∷ []) zero e h l = let same : e ≡ x = cc in ap (λ y. y ∷ []) (sym same)
  split_last (x ∷ y ∷ es) zero e h l = absurd (omega (arith, l))
  split_last (x ∷ es) (suc n) e h l = ap (λ k. x ∷ k) (split_last es n e h (omega (arith, l)))

  pub front_and_last : (es : List (Pair × X)) (e : Pair × X) → Some e ≡ last_entry es → es ≡ take (length es - 1) es ++ e ∷ []
  front_and_last [] e h = cc
  front_and_last (x ∷ es) e h = split_last (x ∷ es) (length (x ∷ es) - 1) e h (omega arith)

  pub none_last : (es : List (Pair × X)) → None ≡ last_entry es → es ≡ []
  none_last [] h = refl
  none_last (x ∷ es) h = let some = slice_get-get_or (x ∷ es) (length (x ∷ es) - 1) x (omega arith) in cc

  all_without : (p : Pair → Type 0) (test : Pair → Bool) (es : List (Pair × X)) → AllByRecursion p (keys_of es)
      → AllByRecursion p (keys_of (remove_entry test es))
  all_without p test [] a = a
  all_without p test (e ∷ es) a = elim (cases_Bool (test e.0)) [ inl t ↦ rw t a.1 | inr f ↦ rw f (a.0, all_without p test es a.1) ]

  none_there : (k : Pair) (es : List (Pair × X)) → AllByRecursion (λ y. same_pair k y ≡ false) (keys_of es) → lookup (same_pair k) es ≡ None
  none_there k [] a = refl
  none_there k (e ∷ es) a = rw a.0 (none_there k es a.1)

  all_apart : (k : Pair) (es : List (Pair × X)) → lookup (same_pair k) es ≡ None → AllByRecursion (λ y. same_pair k y ≡ false) (keys_of es)
  all_apart k [] h = tt
  all_apart k (e ∷ es) h = elim (cases_Bool (same_pair k e.0)) [
    | inl t ↦ let h' : Some e.1 ≡ None = rw t at h in cc
    | inr f ↦ (f, all_apart k es (rw f at h))
  ]

  pub apart_rest : (e : Pair × X) (es : List (Pair × X)) → IsApart (e ∷ es) → IsApart es
  apart_rest e es i = IsDistinct-tail same_pair e.0 (keys_of es) i

  pub apart_first : (e : Pair × X) (es : List (Pair × X)) → IsApart (e ∷ es) → lookup (same_pair e.0) es ≡ None
  apart_first e es i = none_there e.0 es (IsDistinct-head same_pair e.0 (keys_of es) i)

  pub apart_put : (e : Pair × X) (es : List (Pair × X)) → lookup (same_pair e.0) es ≡ None → IsApart es → IsApart (e ∷ es)
  apart_put e es none i = IsDistinct-cons same_pair e.0 (keys_of es) (all_apart e.0 es none) i

  pub apart_without : (p : Pair) (es : List (Pair × X)) → IsApart es → IsApart (remove_entry (same_pair p) es)
  apart_without p [] i = i
  apart_without p (e ∷ es) i = elim (cases_Bool (same_pair p e.0)) [
    | inl t ↦ rw t (apart_rest e es i)
    | inr f ↦ rw f (IsDistinct-cons same_pair e.0 (keys_of (remove_entry (same_pair p) es))
        (all_without (λ y. same_pair e.0 y ≡ false) (same_pair p) es (IsDistinct-head same_pair e.0 (keys_of es) i)) (apart_without p es (apart_rest e es i)))
  ]

  -- another one than the first is taken out
  pub apart_others : (p : Pair) (e : Pair × X) (es : List (Pair × X)) → IsApart (e ∷ es) → IsApart (e ∷ remove_entry (same_pair p) es)
  apart_others p e es i = IsDistinct-cons same_pair e.0 (keys_of (remove_entry (same_pair p) es))
      (all_without (λ y. same_pair e.0 y ≡ false) (same_pair p) es (IsDistinct-head same_pair e.0 (keys_of es) i)) (apart_without p es (apart_rest e es i))

  all_front : (p : Pair → Type 0) (es fs : List (Pair × X)) → AllByRecursion p (keys_of (es ++ fs)) → AllByRecursion p (keys_of es)
  all_front p [] fs a = tt
  all_front p (e ∷ es) fs a = (a.0, all_front p es fs a.1)

  pub apart_front : (es fs : List (Pair × X)) → IsApart (es ++ fs) → IsApart es
  apart_front [] fs i = apart_none
  apart_front (e ∷ es) fs i = IsDistinct-cons same_pair e.0 (keys_of es) (all_front _ es fs (IsDistinct-head same_pair e.0 (keys_of (es ++ fs)) i))
      (apart_front es fs (apart_rest e (es ++ fs) i))

  pub no_more : (es : List (Pair × X)) → None ≡ last_entry es → take (length es - 1) es ≡ []
  no_more es h = let Q : List (Pair × X) → Type 0 = λ l. take (length l - 1) l ≡ [] in subst Q (sym (none_last es h)) refl

  -- ---- a look-up

  pub lookup_other : (p k : Pair) (es : List (Pair × X)) → same_pair k p ≡ false
      → lookup (same_pair k) (remove_entry (same_pair p) es) ≡ lookup (same_pair k) es
  lookup_other p k [] other = refl
  lookup_other p k (e ∷ es) other = elim (cases_Bool (same_pair p e.0)) [
    | inl t ↦ rw t (rw (other_key p k e.0 t other) refl)
    | inr f ↦ rw f (ap (λ o. cond (same_pair k e.0) (Some e.1) o) (lookup_other p k es other))
  ]

  pub lookup_gone : (p : Pair) (es : List (Pair × X)) → IsApart es → lookup (same_pair p) (remove_entry (same_pair p) es) ≡ None
  lookup_gone p [] i = refl
  lookup_gone p (e ∷ es) i = elim (cases_Bool (same_pair p e.0)) [
    | inl t ↦ rw t (subst (λ y. lookup (same_pair y) es ≡ None) (sym (same_is p e.0 t)) (apart_first e es i))
    | inr f ↦ rw f (rw f (lookup_gone p es (apart_rest e es i)))
  ]

  -- what was taken out is put back
  pub lookup_back : (p : Pair) (x : X) (es : List (Pair × X)) → lookup (same_pair p) es ≡ Some x → (k : Pair)
      → lookup (same_pair k) ((p, x) ∷ remove_entry (same_pair p) es) ≡ lookup (same_pair k) es
  lookup_back p x es found k = elim (cases_Bool (same_pair k p)) [
    | inl t ↦ rw t (subst (λ y. Some x ≡ lookup (same_pair y) es) (sym (same_is k p t)) (sym found))
    | inr f ↦ rw f (lookup_other p k es f)
  ]

  among : (es fs : List (Pair × X)) → IsPermutation es fs → IsApart fs → (k : Pair) (x : X) → lookup (same_pair k) es ≡ Some x
      → lookup (same_pair k) fs ≡ Some x
  among es fs i apart k x e = lookup-from_Contains laws k x fs apart (Contains-permutation es fs (k, x) i (Contains-from_lookup same_is k x es e))

  none_more : (es fs : List (Pair × X)) → IsPermutation es fs → IsApart es → (k : Pair) (o : Option X) → lookup (same_pair k) fs ≡ o
      → lookup (same_pair k) es ≡ None → o ≡ None
  none_more es fs i apart k None e none = refl
  none_more es fs i apart k (Some x) e none = let some = among fs es (IsPermutation-sym es fs i) apart k x e in cc

  pub apart_moved : (es fs : List (Pair × X)) → IsPermutation es fs → IsApart es → IsApart fs
  apart_moved es fs i = IsDistinct-IsPermutation same_pair laws.symm (keys_of es) (keys_of fs) (IsPermutation-map (λ e. e.0) es fs i)

  found_moved : (es fs : List (Pair × X)) → IsPermutation es fs → IsApart es → (k : Pair) (o : Option X) → lookup (same_pair k) es ≡ o
      → lookup (same_pair k) fs ≡ o
  found_moved es fs i apart k None e = none_more es fs i apart k (lookup (same_pair k) fs) refl e
  found_moved es fs i apart k (Some x) e = among es fs i (apart_moved es fs i apart) k x e

  -- The order doesn't matter.
  pub lookup_moved : (es fs : List (Pair × X)) → IsPermutation es fs → IsApart es → (k : Pair) → lookup (same_pair k) fs ≡ lookup (same_pair k) es
  lookup_moved es fs i apart k = found_moved es fs i apart k (lookup (same_pair k) es) refl

  -- Nothing was taken out.
  pub lookup_kept : (p : Pair) (es : List (Pair × X)) → lookup (same_pair p) es ≡ None → remove_entry (same_pair p) es ≡ es
  lookup_kept p [] none = refl
  lookup_kept p (e ∷ es) none = elim (cases_Bool (same_pair p e.0)) [
    | inl t ↦ let none' : Some e.1 ≡ None = rw t at none in cc
    | inr f ↦ rw f (ap (λ l. e ∷ l) (lookup_kept p es (rw f at none)))
  ]
