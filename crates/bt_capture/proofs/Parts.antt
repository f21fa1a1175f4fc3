-- Entries in two parts, of which the second one's last entry is the oldest.
use Rattle.std.proofs.Common.{◌≡◌, ◌∙◌, ◌-◌, Bool, List, [], ◌∷◌, ◌++◌, append_assoc, append-nil, length, take, Option, Some, None}
use Rattle.std.proofs.Common.{refl, sym, ap, subst, inl, inr, Result, Ok, Err, OnOk}
use Rattle.std.specs.List.{cons_option}
use Rattle.std.specs.List.Sorted.{IsPermutation}
use Rattle.std.specs.Map.{lookup, remove_entry}
use Rattle.std.specs.Option.{option_to_list}
use Rattle.std.proofs.lemmas.Bool.{cases_Bool}
use Rattle.std.proofs.lemmas.List.Sorted.{IsPermutation-append_comm, IsPermutation-append_left}
use Rattle.lru.specs.LruCache.{last_entry}
use Rattle.bt_capture.specs.declared.pair.Pair.{Pair}
use Rattle.bt_capture.specs.Tables.{IsApart}
use Rattle.bt_capture.proofs.Entries.{front_and_last, none_last, no_more, apart_front, apart_rest}

pub on_ok : {T E P Q : Type 0} (r : Result T E) → (P → Q) → OnOk r P → OnOk r Q
on_ok (Ok x) f p = f p
on_ok (Err x) f p = p

pub on_two : {T E P Q R : Type 0} (r : Result T E) → (P → Q → R) → OnOk r P → OnOk r Q → OnOk r R
on_two (Ok x) f p q = f p q
on_two (Err x) f p q = p

module _ {X : Type 0} where
  -- ---- a look-up in both

  pub none_front : (test : Pair → Bool) (es fs : List (Pair × X)) → lookup test (es ++ fs) ≡ None → lookup test es ≡ None
  none_front test [] fs none = refl
  none_front test (e ∷ es) fs none = elim (cases_Bool (test e.0)) [
    | inl t ↦ let none' : Some e.1 ≡ None = rw t at none in cc
    | inr f ↦ rw f (none_front test es fs (rw f at none))
  ]

  pub none_back : (test : Pair → Bool) (es fs : List (Pair × X)) → lookup test (es ++ fs) ≡ None → lookup test fs ≡ None
  none_back test [] fs none = none
  none_back test (e ∷ es) fs none = elim (cases_Bool (test e.0)) [
    | inl t ↦ let none' : Some e.1 ≡ None = rw t at none in cc
    | inr f ↦ none_back test es fs (rw f at none)
  ]

  pub found_front : (test : Pair → Bool) (es fs : List (Pair × X)) (x : X) → Some x ≡ lookup test es → Some x ≡ lookup test (es ++ fs)
  found_front test [] fs x some = cc
  found_front test (e ∷ es) fs x some = elim (cases_Bool (test e.0)) [
    | inl t ↦ rw t (rw t at some)
    | inr f ↦ rw f (found_front test es fs x (rw f at some))
  ]

  pub found_back : (test : Pair → Bool) (es fs : List (Pair × X)) → lookup test es ≡ None → lookup test (es ++ fs) ≡ lookup test fs
  found_back test [] fs none = refl
  found_back test (e ∷ es) fs none = elim (cases_Bool (test e.0)) [
    | inl t ↦ let none' : Some e.1 ≡ None = rw t at none in cc
    | inr f ↦ rw f (found_back test es fs (rw f at none))
  ]

  pub gone_front : (test : Pair → Bool) (es fs : List (Pair × X)) (x : X) → Some x ≡ lookup test es
      → remove_entry test es ++ fs ≡ remove_entry test (es ++ fs)
  gone_front test [] fs x some = cc
  gone_front test (e ∷ es) fs x some = elim (cases_Bool (test e.0)) [
    | inl t ↦ rw t refl
    | inr f ↦ rw f (ap (λ l. e ∷ l) (gone_front test es fs x (rw f at some)))
  ]

  pub gone_back : (test : Pair → Bool) (es fs : List (Pair × X)) → lookup test es ≡ None
      → es ++ remove_entry test fs ≡ remove_entry test (es ++ fs)
  gone_back test [] fs none = refl
  gone_back test (e ∷ es) fs none = elim (cases_Bool (test e.0)) [
    | inl t ↦ let none' : Some e.1 ≡ None = rw t at none in cc
    | inr f ↦ rw f (ap (λ l. e ∷ l) (gone_back test es fs (rw f at none)))
  ]

  -- ---- one entry more

  pub put_back : (e : Pair × X) (es fs : List (Pair × X)) → IsPermutation (e ∷ (es ++ fs)) (es ++ e ∷ fs)
  put_back e es fs =
      let P : List (Pair × X) → Type 0 = λ l. IsPermutation (e ∷ (es ++ fs)) l in
      subst P (append_assoc es (e ∷ []) fs) (IsPermutation-append_left fs (e ∷ es) (es ++ e ∷ []) (IsPermutation-append_comm (e ∷ []) es))

  -- ---- the oldest one

  pub popped : (es : List (Pair × X)) (o : Option (Pair × X)) → o ≡ last_entry es → es ≡ take (length es - 1) es ++ option_to_list o
  popped es None is = none_last es is ∙ sym (append-nil (take (length es - 1) es) ∙ no_more es is)
  popped es (Some e) is = front_and_last es e is

  pub not_popped : (es : List (Pair × X)) (o : Option (Pair × X)) → o ≡ last_entry es → o ≡ None → es ≡ []
  not_popped es None is none = none_last es is
  not_popped es (Some e) is none = cc

  -- the second part is empty
  pub popped_front : (es fs es' fs' : List (Pair × X)) (o : Option (Pair × X)) → fs ≡ [] → fs' ≡ [] → es ≡ es' ++ option_to_list o
      → es ++ fs ≡ (es' ++ fs') ++ option_to_list o
  popped_front es fs es' fs' o none none' is =
      ap (λ l. es ++ l) none ∙ append-nil es ∙ is ∙ ap (λ l. l ++ option_to_list o) (sym (append-nil es') ∙ ap (λ l. es' ++ l) (sym none'))

  pub first_and_others : (o : Option (Pair × X)) (es fs gs : List (Pair × X)) → es ≡ fs ++ gs → cons_option o es ≡ cons_option o fs ++ gs
  first_and_others None es fs gs is = is
  first_and_others (Some x) es fs gs is = ap (λ l. x ∷ l) is

  pub apart_others_left : (o : Option (Pair × X)) (es fs gs : List (Pair × X)) → es ≡ fs ++ gs → IsApart (cons_option o es) → IsApart (cons_option o fs)
  apart_others_left o es fs gs is i = apart_front (cons_option o fs) gs (subst (λ l. IsApart l) (first_and_others o es fs gs is) i)

  pub apart_others : (o : Option (Pair × X)) (es : List (Pair × X)) → IsApart (cons_option o es) → IsApart es
  apart_others None es i = i
  apart_others (Some x) es i = apart_rest x es i
